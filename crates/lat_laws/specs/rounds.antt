-- Rounds of a world in which nothing was lost, and what they bring.
pub mod Lossless
pub mod Rounds
pub mod Calm
pub mod Settles
pub mod Idle
pub mod Measure
pub mod Flight
pub mod Progress
pub mod Plain
pub mod Carried
pub mod Seated
pub mod Fitting
pub mod Counting
