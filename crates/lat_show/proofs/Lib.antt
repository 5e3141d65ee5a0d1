pub mod LinesPrinted
pub mod Onto
