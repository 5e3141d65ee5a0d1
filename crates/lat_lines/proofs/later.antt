-- What became of the sessions of an end in one event.
pub mod Tended
pub mod Heard
pub mod Both
pub mod Ends
pub mod Calls
pub mod Known
