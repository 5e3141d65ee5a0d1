-- Spans: both ends of a circuit have one, and each RUN is of its kind.
pub mod Times
pub mod Tables
pub mod Frames
pub mod Servers
pub mod Nodes
pub mod Runs
