pub mod Tells
pub mod Texts
