pub mod Words
pub mod Announcements
pub mod Stands
pub mod Steps
pub mod Expiry
pub mod Looks
