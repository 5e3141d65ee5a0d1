-- The server: directory, queue, and what each event makes of them.

pub mod Directory
pub mod Queue
pub mod Records
pub mod Server
pub mod Lists
