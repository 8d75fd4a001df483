pub mod Sidings
