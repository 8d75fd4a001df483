pub mod Agreement
pub mod Statuses
