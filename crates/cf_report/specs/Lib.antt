pub mod Putting
pub mod Gathering
pub mod Lines
pub mod Passengers
pub mod Picture
pub mod Progress
