-- What goes over the wire, as values, and what a machine is told and answers.

pub mod Names
pub mod Addresses
pub mod Messages
pub mod Notices
pub mod Keys
pub mod Frames
pub mod Timing
pub mod Runs
pub mod Events
pub mod Answers
