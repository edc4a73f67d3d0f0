pub mod Fields
pub mod Codecs
pub mod Bodies
pub mod Header
pub mod Images
pub mod FromFn
pub mod Padding
pub mod Memory
