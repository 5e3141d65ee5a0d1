pub mod Found
pub mod Orders
pub mod Times
pub mod OnceEach
pub mod Steps
