pub mod Keeping
pub mod Requests
