-- What holds behind an avoid.
pub mod Latest
pub mod Avoided
