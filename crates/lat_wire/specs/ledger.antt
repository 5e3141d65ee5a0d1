pub mod Lossless
pub mod Tallies
pub mod Posts
pub mod Ways
pub mod Logs
pub mod Headings
pub mod Books
