pub mod Words
pub mod Lines
pub mod Refusal
pub mod Printed
pub mod Pattern
pub mod Runs
pub mod Timings
