pub mod CandidateLines
pub mod Conformed
pub mod Reading
