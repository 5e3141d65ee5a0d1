pub mod FieldNumbers
pub mod Notices
pub mod Heard
pub mod Readable
pub mod Frames
pub mod Addresses
pub mod Everyone
