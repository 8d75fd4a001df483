pub mod Words
pub mod Kinds
pub mod MoveLines
pub mod Scripts
pub mod Limits
