pub mod FileCommands
pub mod OutsideChanges
pub mod Reporting
pub mod RunStatuses
