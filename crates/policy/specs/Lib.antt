pub mod Match
pub mod House
pub mod Owners
pub mod Adding
pub mod Placed
pub mod Asked
