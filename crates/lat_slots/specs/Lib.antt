pub mod Kinds
pub mod Reasons
pub mod Layout
pub mod Reading
pub mod Laws
