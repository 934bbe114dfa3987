pub mod Spelling
pub mod Parting
