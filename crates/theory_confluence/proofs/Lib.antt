pub mod weight
pub mod drains
pub mod sites
pub mod back
pub mod Laws
pub mod Candidates
