pub mod Options
pub mod Members
pub mod Turned
pub mod Passing
pub mod Growing
pub mod Listing
pub mod Marks
pub mod Along
