pub mod FailingNumbers
pub mod PutLoop
pub mod TakeLoop
pub mod Owing
