pub mod Carried
pub mod Carrying
pub mod Computed
pub mod Calling
