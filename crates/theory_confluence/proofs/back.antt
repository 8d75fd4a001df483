-- A move is taken back by means of the old contents of what it wrote.
pub mod BytesBack
pub mod PutBack
pub mod TakenBack
