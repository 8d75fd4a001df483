pub mod Values
pub mod Walked
