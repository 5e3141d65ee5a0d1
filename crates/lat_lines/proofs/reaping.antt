-- What lines know of their sessions after an event.
pub mod Held
pub mod Ends
pub mod Seats
pub mod After
pub mod Noted
pub mod Books
pub mod Reaped
