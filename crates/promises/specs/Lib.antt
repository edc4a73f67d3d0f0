pub mod Accounting
pub mod Runs
