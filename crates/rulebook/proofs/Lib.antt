pub mod Chains
pub mod Failing
pub mod Owners
pub mod Rooms
pub mod Operands
pub mod Depths
pub mod Cuts
pub mod AspectRules
