pub mod Names
pub mod AnyOrder
pub mod AnyModels
pub mod Choices
pub mod Leaving
pub mod AnyLaws
