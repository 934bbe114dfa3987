pub mod Lists
pub mod Path
pub mod Grade
pub mod Simple
pub mod Answer
