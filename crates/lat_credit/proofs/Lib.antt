-- The accounts of the model's sessions.
pub mod Sessions
