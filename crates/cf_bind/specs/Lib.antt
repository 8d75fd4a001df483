pub mod Meeting
pub mod MoveTexts
