-- Each move except Issue lowers a weight of the state, whichever rule is taken away, so lists of moves end.
mod OrderWeight
mod Weights
mod Lowers
mod Moves
pub mod Ending
