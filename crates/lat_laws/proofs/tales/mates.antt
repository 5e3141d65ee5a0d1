-- The sessions of server and node that belong to each other.
pub mod Reach
pub mod Partners
pub mod Places
pub mod Matched
