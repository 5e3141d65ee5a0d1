pub mod Reasons
pub mod Runs
pub mod RunLaws
pub mod QueueLaws
