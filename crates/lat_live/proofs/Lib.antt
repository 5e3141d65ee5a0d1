pub mod Asking
pub mod Made
pub mod Planned
pub mod Ruled
pub mod Seating
pub mod Statuses
pub mod Steps
pub mod Came
