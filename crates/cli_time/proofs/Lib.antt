pub mod ClassNames
pub mod Comparisons
pub mod Counts
pub mod Decided
pub mod DelaysFound
pub mod Listed
pub mod Lists
pub mod LayoutLists
pub mod Measured
pub mod ProgramFound
pub mod Rows
pub mod NoStreams
pub mod FilesRead
mod FilesLacking
