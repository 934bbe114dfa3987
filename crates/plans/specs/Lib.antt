pub mod Plan
pub mod Offers
pub mod Best
pub mod Tests
pub mod Faults
