pub mod LogPlaces
pub mod Wanted
pub mod Judging
pub mod Conforming
