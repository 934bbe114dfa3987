pub mod Fresh
pub mod Pushes
pub mod Unlinks
pub mod Bits
pub mod Nearests
