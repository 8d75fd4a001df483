-- Runs, and the claims about them.
pub mod Runs
pub mod Soundness
pub mod SoundnessPath
pub mod SoundnessLone
pub mod SoundnessSidings
pub mod SoundnessPort
pub mod Level
pub mod Lines
pub mod Ahead
pub mod Output
pub mod Refines
pub mod OnPath
pub mod Stutters
