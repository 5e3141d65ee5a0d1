pub mod Jobs
pub mod Spools
pub mod Worlds
pub mod Laws
