-- What the server and the node share: their circuits and their lines.

pub mod Acts
pub mod Hearing
pub mod Cores
pub mod Lines
pub mod Books
pub mod LineCalls
pub mod Looks
