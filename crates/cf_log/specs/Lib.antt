pub mod Cutting
pub mod Lines
