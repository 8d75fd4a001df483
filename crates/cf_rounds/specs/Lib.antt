pub mod Rounds
pub mod Firing
pub mod Running
pub mod Turns
pub mod RunsRight
pub mod Saying
