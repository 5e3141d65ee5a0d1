-- The rows that are kept are those of the report.
pub mod Pairs
pub mod By
pub mod Servers
pub mod Nodes
pub mod Runs
pub mod Told
pub mod Books
pub mod Newcomers
