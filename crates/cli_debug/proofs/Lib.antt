pub mod Telling
pub mod Debugging
pub mod Faults
pub mod Reading
