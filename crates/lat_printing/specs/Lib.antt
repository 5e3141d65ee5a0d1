pub mod Posts
pub mod Desks
pub mod Events
pub mod Holds
pub mod Laws
