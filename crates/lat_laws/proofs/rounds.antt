-- Rounds of a world in which nothing was lost, and what they bring.
pub mod sessions
pub mod measure
pub mod flight
pub mod progress
pub mod plain
pub mod carried
pub mod examples
pub mod rounds
pub mod ready
pub mod shape
pub mod counting
pub mod row
pub mod settle
