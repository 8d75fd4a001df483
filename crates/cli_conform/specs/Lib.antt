pub mod LogLines
pub mod Conform
