pub mod Indented
pub mod Printed
pub mod DumpOf
