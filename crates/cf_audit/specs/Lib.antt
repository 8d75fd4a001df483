pub mod Compared
pub mod Traces
pub mod Lines
pub mod Turns
pub mod Findings
pub mod Audits
pub mod Limits
