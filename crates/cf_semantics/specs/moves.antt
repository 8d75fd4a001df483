-- The fourteen moves: what instructions do on their way, what bars each move, what it does, and what it shows from
-- outside.
pub mod Instructions
pub mod Bars
pub mod Moves
pub mod Steps
pub mod Fetches
pub mod Sites
pub mod Events
pub mod Kept
pub mod Candidates
pub mod Holding
