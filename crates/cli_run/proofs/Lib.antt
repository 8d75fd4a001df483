pub mod OpenedRuns
pub mod ProcessorRuns
pub mod RunFiles
