pub mod Closing
pub mod Run
pub mod Tail
