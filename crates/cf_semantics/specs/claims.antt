-- The claims about every run.
pub mod Laws
pub mod Walks
pub mod Path
pub mod Ahead
pub mod Right
pub mod Weight
pub mod Determined
pub mod Refines
pub mod Stutters
pub mod OnPath
pub mod Soundness
pub mod SoundAfter
