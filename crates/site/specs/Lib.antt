pub mod Ways
pub mod Model
pub mod Plots
pub mod Commands
pub mod Desks
pub mod Replies
