pub mod Rings
pub mod Queues
pub mod Leaving
pub mod Behind
