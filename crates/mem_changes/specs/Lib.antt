pub mod MemoryChanges
pub mod Applied
pub mod Differing
pub mod Images
pub mod Steps
