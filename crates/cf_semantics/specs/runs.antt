-- Runs of moves, and what retires on the way.
pub mod Runs
pub mod Lines
pub mod Paced
