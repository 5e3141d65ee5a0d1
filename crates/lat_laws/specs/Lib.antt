pub mod rounds
pub mod tales
pub mod promises
pub mod habits
pub mod halts
pub mod avoids
pub mod readies
