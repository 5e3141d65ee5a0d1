pub mod Lists
pub mod Reasons
pub mod numbers
pub mod sessions
pub mod ends
pub mod circuits
