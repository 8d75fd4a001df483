mod Allowed
mod OnLiterals
pub mod Values
pub mod Turns
pub mod Sidings
pub mod Cache
pub mod Orders
