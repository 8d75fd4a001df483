-- Each of the fourteen moves keeps the invariant.
pub mod Rows
pub mod Climb
pub mod Meet
pub mod Issue
pub mod Emit
pub mod Fall
pub mod Execute
pub mod Send
pub mod Launch
pub mod Slide
pub mod Access
pub mod Recovering
pub mod Recover
pub mod Leave
pub mod Exit
pub mod Serve
