pub mod NameClaims
pub mod Rules
