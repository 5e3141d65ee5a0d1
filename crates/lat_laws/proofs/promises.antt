-- What both ends are promised in every run.
pub mod Sessions
pub mod Circuits
pub mod Rows
pub mod Mates
pub mod Examples
