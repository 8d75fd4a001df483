pub mod Commands
pub mod Options
pub mod Reading
pub mod Values
pub mod Views
pub mod Arguments
