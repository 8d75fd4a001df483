pub mod Closing
pub mod Finish
pub mod Lines
pub mod Machine
pub mod Options
