pub mod Acts
pub mod Scan
pub mod Regrade
pub mod Calls
pub mod Law
pub mod Ordered
