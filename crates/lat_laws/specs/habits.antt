-- What every history of one machine keeps.
pub mod Refused
pub mod Chosen
pub mod Fullness
pub mod Living
pub mod Accepted
pub mod Kinds
pub mod Credits
