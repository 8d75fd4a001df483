pub mod Limits
pub mod Reportings
