pub mod MoveLists
pub mod WrongLists
pub mod Claims
