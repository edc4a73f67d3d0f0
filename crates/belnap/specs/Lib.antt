pub mod Belnap
pub mod Operator
