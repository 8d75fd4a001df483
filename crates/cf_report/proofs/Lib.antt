pub mod Puttings
pub mod Listed
pub mod Pictures
pub mod Parts
pub mod Keeping
