pub mod Programs
pub mod StepLaws
pub mod Keeps
pub mod Stores
pub mod Informed
