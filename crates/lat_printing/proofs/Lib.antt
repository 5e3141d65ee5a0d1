pub mod Bytes
pub mod Desks
pub mod Seats
pub mod Scans
