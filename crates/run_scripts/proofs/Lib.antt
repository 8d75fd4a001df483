pub mod WordCuts
pub mod Ends
pub mod Sizes
pub mod Written
pub mod ReadBack
pub mod Counted
mod Names
pub mod Digits
pub mod FirstLines
