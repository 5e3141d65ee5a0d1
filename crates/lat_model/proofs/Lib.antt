pub mod numbers
pub mod sessions
pub mod circuits
pub mod examples
