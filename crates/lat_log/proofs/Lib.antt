pub mod Gathered
pub mod UnseenLines
pub mod Added
pub mod Few
pub mod Silent
