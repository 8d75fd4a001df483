-- States: what is in the pipes and beside them, and what the moves need to know about them.
pub mod Options
pub mod State
pub mod Column
pub mod Passengers
pub mod Layouts
pub mod Drained
pub mod Places
