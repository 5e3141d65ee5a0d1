pub mod Events
pub mod Told
pub mod Rounds
pub mod Laws
pub mod Texts
