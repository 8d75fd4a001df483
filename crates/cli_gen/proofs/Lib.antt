pub mod Loads
pub mod DrawnRuns
