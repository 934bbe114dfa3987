pub mod First
pub mod Table
pub mod Judged
pub mod View
