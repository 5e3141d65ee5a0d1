pub mod Answered
pub mod Clients
pub mod Lines
pub mod Seats
pub mod Sessions
