pub mod Moves
pub mod Reserved
pub mod Adding
pub mod Present
pub mod Following
pub mod Names
pub mod Rows
pub mod Roster
