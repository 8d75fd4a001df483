pub mod Moves
pub mod Moments
