pub mod Answers
pub mod Bytes
pub mod Hexadecimal
pub mod Lines
pub mod Retirement
pub mod Room
