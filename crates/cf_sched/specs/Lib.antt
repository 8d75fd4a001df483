pub mod Policies
pub mod Paces
