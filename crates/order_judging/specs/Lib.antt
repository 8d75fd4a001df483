pub mod Places
pub mod ReplyClaims
pub mod Judgements
pub mod FirstTests
