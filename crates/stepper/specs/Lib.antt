pub mod Farmstep
pub mod Bodies
