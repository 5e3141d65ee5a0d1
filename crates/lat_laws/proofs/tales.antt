-- What is kept of a run so that its report can be told.
pub mod steps
pub mod seats
pub mod mates
pub mod rows
