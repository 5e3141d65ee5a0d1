pub mod Answers
pub mod Whole
pub mod Servers
pub mod Nodes
pub mod Switches
pub mod Worlds
pub mod Tariffs
