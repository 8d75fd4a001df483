pub mod Values
pub mod Placing
pub mod Programs
