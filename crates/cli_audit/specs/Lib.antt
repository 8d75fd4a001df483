pub mod Audit
pub mod Effects
pub mod Reports
pub mod Traces
