pub mod InRounds
pub mod Reading
