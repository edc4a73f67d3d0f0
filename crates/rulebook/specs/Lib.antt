pub mod Parts
pub mod Rulebook
pub mod Steps
