pub mod Spelt
pub mod Slashed
