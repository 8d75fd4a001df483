-- With Issue held back nothing gets stuck before the processor is drained, and all runs end alike.
pub mod Stuck
pub mod Drains
pub mod Right
pub mod RightMoves
pub mod Ways
pub mod Steadies
pub mod Counted
pub mod Tidy
pub mod Rested
pub mod Determined
pub mod Confluent
pub mod Apart
pub mod Retiring
