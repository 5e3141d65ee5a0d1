pub mod Rules
pub mod Ratings
pub mod Tariffs
pub mod Full
pub mod Own
pub mod Laws
