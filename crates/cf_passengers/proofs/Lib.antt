pub mod Decoded
pub mod Registers
pub mod Kept
pub mod Classes
pub mod Computing
pub mod Permitted
pub mod FromTemplates
