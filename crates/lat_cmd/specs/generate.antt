pub mod Grown
pub mod Growths
pub mod Draws
pub mod Turns
pub mod Front
pub mod Reread
