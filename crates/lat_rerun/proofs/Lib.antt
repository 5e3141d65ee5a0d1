pub mod Agreeing
pub mod Leading
pub mod Opened
pub mod RowByRow
pub mod Ruleless
