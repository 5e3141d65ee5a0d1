pub mod KeyHash
pub mod Lines
pub mod Tables
pub mod KeptValues
pub mod Histories
pub mod Looks
