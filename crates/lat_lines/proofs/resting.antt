-- Lines whose sessions an act leaves as their lines know them.
pub mod Steady
pub mod Ends
pub mod Calls
pub mod Quiet
pub mod Cores
pub mod Hears
pub mod Rested
