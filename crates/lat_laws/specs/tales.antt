-- What is kept of a run so that its report can be told.
pub mod Items
pub mod Mates
pub mod Rows
pub mod Keeping
pub mod Reported
pub mod Books
