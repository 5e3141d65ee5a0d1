pub mod Spans
pub mod Acks
pub mod Sides
