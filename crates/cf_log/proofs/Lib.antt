pub mod Times
pub mod Holding
