pub mod state
pub mod moves
pub mod runs
pub mod claims
