-- What is shown of each session, in order.
pub mod Sessions
pub mod Held
pub mod Flat
pub mod Tellings
pub mod Consuming
pub mod Orders
