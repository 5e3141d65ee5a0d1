pub mod Words
pub mod Entries
pub mod Runs
pub mod Courses
pub mod Fates
pub mod TraceText
pub mod Shown
