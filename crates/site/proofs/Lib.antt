pub mod Broken
pub mod Commanded
