pub mod Escaped
pub mod Short
pub mod Layout
pub mod Placed
pub mod Lines
pub mod Events
pub mod DrawText
