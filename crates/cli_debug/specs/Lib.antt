pub mod Closing
pub mod Debug
