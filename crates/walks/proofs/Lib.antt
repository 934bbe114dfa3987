pub mod Walking
pub mod Marks
pub mod Searching
pub mod Coming
pub mod Meeting
pub mod Befores
pub mod Found
pub mod Homing
