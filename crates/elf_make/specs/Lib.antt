pub mod Fields
pub mod Sizes
pub mod Headers
pub mod Symbols
pub mod Files
pub mod Viewed
