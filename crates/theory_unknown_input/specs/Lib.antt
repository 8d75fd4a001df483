pub mod UnknownInput
pub mod Paced
