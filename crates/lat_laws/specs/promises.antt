-- What both ends are promised in every run.
pub mod Circuits
pub mod Rows
