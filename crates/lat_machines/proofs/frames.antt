-- Frames: none breaks a circuit, bytes tell their numbers, other addresses are left alone.
pub mod Whole
pub mod Bytes
pub mod Homes
pub mod Passes
pub mod Reads
pub mod TrueFrames
pub mod Refused
