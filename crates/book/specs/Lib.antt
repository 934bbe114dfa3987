pub mod Books
pub mod Memories
pub mod Tested
pub mod Entering
pub mod Offers
pub mod Working
