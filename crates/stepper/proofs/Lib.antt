pub mod Printing
pub mod Nets
