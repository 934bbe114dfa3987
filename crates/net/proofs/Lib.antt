pub mod Firsts
pub mod Judging
pub mod Tails
pub mod Heads
pub mod Going
