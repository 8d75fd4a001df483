pub mod Deciding
pub mod NamedFiles
pub mod Overview
pub mod Version
pub mod Top
