-- Two ends with all frames between them, and all circuits of a server and a node.

pub mod Pair
pub mod Together
pub mod InOrder
pub mod Heard
pub mod Matched
pub mod History
pub mod World
pub mod Ids
pub mod Arriving
pub mod Events
pub mod WorldOk
pub mod Agree
pub mod Comes
pub mod Spans
