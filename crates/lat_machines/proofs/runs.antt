-- Every run, every history, and computed examples.
pub mod Stories
pub mod Own
pub mod Places
pub mod Safety
pub mod Words
pub mod Sessions
pub mod Strangers
pub mod Requests
pub mod Moments
pub mod Circuits
pub mod Choices
pub mod Answering
pub mod Timers
