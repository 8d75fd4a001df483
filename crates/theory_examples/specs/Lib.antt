pub mod Samples
pub mod Follows
