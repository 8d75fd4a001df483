pub mod Quiet
pub mod Remembered
pub mod Passed
