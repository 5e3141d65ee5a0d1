pub mod Appending
pub mod Staying
pub mod Rows
pub mod Finding
pub mod Stubbing
pub mod Entering
pub mod Coming
pub mod Picturing
