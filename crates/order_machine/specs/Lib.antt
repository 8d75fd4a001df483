pub mod NextSteps
pub mod Waypoints
pub mod Judgements
