pub mod Addresses
pub mod events
pub mod queue
pub mod frames
pub mod spans
pub mod tally
pub mod runs
