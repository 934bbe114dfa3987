pub mod Held
pub mod Asks
pub mod Acts
pub mod Calls
pub mod Lines
