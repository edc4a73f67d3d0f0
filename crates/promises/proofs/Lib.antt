pub mod Accounting
pub mod Hits
pub mod History
pub mod More
pub mod OnMemory
pub mod Worked
pub mod Returns
pub mod OneAnswer
