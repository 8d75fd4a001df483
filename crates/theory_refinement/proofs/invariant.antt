-- The invariant: all that soundness claims, and what else the induction needs.
pub mod Sure
pub mod Port
pub mod Lone
pub mod Suited
pub mod Stands
pub mod Operations
pub mod Invariant
