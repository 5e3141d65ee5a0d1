-- The numbers of frames are those that are tallied from their marks and from what was taken.
pub mod Ends
pub mod Tables
pub mod Cores
pub mod Servers
pub mod Nodes
pub mod Worlds
