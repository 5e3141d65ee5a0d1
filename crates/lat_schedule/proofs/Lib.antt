pub mod Many
pub mod Passing
pub mod Pushed
pub mod Words
pub mod FieldsRead
pub mod ReadBack
pub mod EventsRead
