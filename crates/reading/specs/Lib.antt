pub mod Spelling
pub mod Reading
pub mod Nets
pub mod Readings
