pub mod After
pub mod Written
pub mod Loaded
pub mod Made
pub mod Updated
pub mod Once
pub mod Steps
