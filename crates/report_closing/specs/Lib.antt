pub mod Lines
pub mod Closing
pub mod Moves
pub mod Parts
