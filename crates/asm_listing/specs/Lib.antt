pub mod Ending
pub mod Labels
pub mod Lines
pub mod Listing
