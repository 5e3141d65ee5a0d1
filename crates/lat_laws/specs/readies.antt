-- What holds of lines that are ready and of those that aren't.
pub mod Alone
