pub mod OrderTexts
pub mod EdgeTexts
pub mod Orders
