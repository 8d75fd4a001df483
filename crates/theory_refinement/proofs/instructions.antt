-- What the proofs use about single instructions, fetching and memory.
pub mod Classes
pub mod Steps
pub mod Fetches
pub mod Homes
pub mod Bases
pub mod Memory
pub mod OwnLines
pub mod OwnShown
