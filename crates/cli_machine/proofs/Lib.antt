pub mod ProgramFiles
pub mod Reading
pub mod Runs
