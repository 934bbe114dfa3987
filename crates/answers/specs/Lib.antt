pub mod Verbs
pub mod Listing
pub mod Texts
pub mod Outcomes
