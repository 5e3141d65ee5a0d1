pub mod Texts
pub mod Reading
pub mod Held
pub mod Written
pub mod Files
pub mod Laws
pub mod PartWords
