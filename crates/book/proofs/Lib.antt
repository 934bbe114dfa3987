pub mod Answered
pub mod Doing
pub mod Entering
pub mod Losing
pub mod Picks
pub mod Regrading
pub mod Scans
pub mod Wiping
