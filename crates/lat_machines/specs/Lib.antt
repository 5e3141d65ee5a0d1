pub mod values
pub mod cores
pub mod server
pub mod node
pub mod world
