pub mod Playing
pub mod Growing
pub mod Bytes
pub mod Telling
pub mod Drawing
pub mod Rereading
pub mod Rereads
