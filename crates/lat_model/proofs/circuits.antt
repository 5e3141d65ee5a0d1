-- Ends, pairs of ends, and all circuits of a server and a node.
pub mod Ids
pub mod IdLists
pub mod Logs
pub mod Halves
pub mod Pairs
pub mod Streams
pub mod Kin
pub mod Worlds
pub mod Begins
pub mod Arrives
pub mod Follows
pub mod Spans
pub mod Windows
