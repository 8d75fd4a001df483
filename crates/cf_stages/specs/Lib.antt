pub mod Changes
pub mod Contents
pub mod Falling
pub mod Lending
pub mod Parts
pub mod Words
