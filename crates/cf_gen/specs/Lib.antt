pub mod Draws
pub mod Statements
pub mod Program
