pub mod Causes
pub mod WordPairs
pub mod Making
pub mod Machines
pub mod Going
pub mod Turning
pub mod ReportFaults
