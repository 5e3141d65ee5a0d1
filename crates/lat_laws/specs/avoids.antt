-- What holds behind an avoid.
pub mod Avoided
