pub mod Notices
pub mod FieldNumbers
pub mod Reads
pub mod Frames
