pub mod Closing
pub mod Rounds
