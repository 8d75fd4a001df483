pub mod Matches
pub mod Heads
