pub mod Announced
pub mod Entries
pub mod Printed
pub mod ChooseOf
