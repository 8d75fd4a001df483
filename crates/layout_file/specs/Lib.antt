pub mod Names
pub mod Tables
pub mod Reading
pub mod Answers
pub mod Text
pub mod Limits
