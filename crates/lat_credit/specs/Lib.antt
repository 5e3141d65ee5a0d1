pub mod Account
pub mod Sessions
