pub mod Memory
pub mod Plan
