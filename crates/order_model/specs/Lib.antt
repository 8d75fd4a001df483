pub mod RuleBars
pub mod RuleMoves
pub mod RuleClaims
pub mod Situations
pub mod ServeEffects
pub mod StageKinds
pub mod StepEffects
