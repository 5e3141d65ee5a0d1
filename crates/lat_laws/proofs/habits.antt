-- What every history of one machine keeps.
pub mod Lone
pub mod Circuits
pub mod Accepted
pub mod Orders
pub mod Chosen
pub mod Lines
pub mod Fullness
pub mod Waiting
pub mod Passes
pub mod Refused
pub mod Starts
pub mod Foreign
pub mod Growing
pub mod Formed
pub mod Credits
pub mod Examples
