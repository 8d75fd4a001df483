-- The column and the sidings as lists, and how a change in the middle affects a walk.
pub mod Column
pub mod Stretch
pub mod Fold
pub mod Change
pub mod Sorted
pub mod Spot
pub mod Sidings
pub mod Flown
