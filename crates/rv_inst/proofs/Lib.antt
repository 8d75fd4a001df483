pub mod Masks
pub mod Table
pub mod Bounds
pub mod OneWord
pub mod Packed
pub mod Reading
pub mod Destinations
