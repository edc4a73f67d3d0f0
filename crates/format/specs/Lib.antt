pub mod Kinds
pub mod Format
pub mod Verdict
pub mod Steps
