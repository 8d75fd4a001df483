pub mod Answering
pub mod EdgeRows
pub mod Reading
pub mod Showing
