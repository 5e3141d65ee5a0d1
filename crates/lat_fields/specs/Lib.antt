pub mod Reading
pub mod Texts
pub mod Params
pub mod ParamsReading
pub mod Payloads
