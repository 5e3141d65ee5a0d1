-- The line sessions of a core: each has a session of its own, and the new ones of an event are held.
pub mod Sound
pub mod Opens
pub mod Accepts
pub mod Steps
pub mod Follows
pub mod Calls
pub mod Told
