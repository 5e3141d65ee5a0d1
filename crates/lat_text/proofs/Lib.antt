pub mod LineEnds
pub mod Decimals
pub mod DigitValues
pub mod HexRead
pub mod HexWritten
pub mod NamesWritten
