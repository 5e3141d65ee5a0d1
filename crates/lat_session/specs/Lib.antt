pub mod Table
pub mod States
pub mod Stands
pub mod Places
pub mod Packed
pub mod Hears
pub mod Calls
