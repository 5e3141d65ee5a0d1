-- The queue: grants go to the first that waits, and none is left out.
pub mod Legal
pub mod Rooms
pub mod Grants
pub mod Quiet
pub mod Alone
pub mod Served
pub mod Settled
