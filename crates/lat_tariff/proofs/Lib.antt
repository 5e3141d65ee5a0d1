pub mod Asked
pub mod Known
pub mod Own
pub mod Rates
