-- The definitions at work on small runs: each line holds by computation.
pub mod Hello
pub mod Closing
pub mod Rejects
pub mod Credits
pub mod Packing
pub mod Numbers
pub mod Circuits
