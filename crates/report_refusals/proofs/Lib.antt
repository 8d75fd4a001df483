pub mod Sourceless
pub mod Cuts
