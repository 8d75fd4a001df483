-- What the moves need, from the rules of layouts.
pub mod Layouts
pub mod Accepted
