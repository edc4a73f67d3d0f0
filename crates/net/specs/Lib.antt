pub mod Codes
pub mod Records
pub mod Net
pub mod Image
