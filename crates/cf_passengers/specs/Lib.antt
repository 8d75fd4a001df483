pub mod Facts
pub mod Waiting
pub mod Issuing
pub mod Launching
pub mod Templates
