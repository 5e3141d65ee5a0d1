pub mod ParamsLoop
pub mod Room
pub mod Steps
pub mod Taken
pub mod Found
pub mod Payloads
pub mod Entries
