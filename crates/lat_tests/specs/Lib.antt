pub mod Echoes
pub mod Hoppers
