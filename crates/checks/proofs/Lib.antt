pub mod Accepting
pub mod Faultless
pub mod Handing
pub mod Improving
