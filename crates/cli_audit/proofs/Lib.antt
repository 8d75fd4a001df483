pub mod Audited
pub mod Reading
