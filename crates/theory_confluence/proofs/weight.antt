-- Each move but Issue lowers the weight, so that a run is bounded.
pub mod Weighs
pub mod Falls
pub mod Bound
