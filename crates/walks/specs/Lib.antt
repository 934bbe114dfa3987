pub mod Walk
pub mod Branches
pub mod Search
