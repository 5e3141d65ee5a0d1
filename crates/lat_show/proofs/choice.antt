pub mod Stations
pub mod EntriesPrinted
