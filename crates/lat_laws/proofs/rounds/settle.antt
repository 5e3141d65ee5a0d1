-- Rounds bring all that was put: what a round does at the two ends of a circuit, and so what many do.
pub mod Steady
pub mod Walks
pub mod Wires
pub mod Before
pub mod Opens
pub mod Others
pub mod Bares
pub mod Answers
pub mod Counts
pub mod Firsts
pub mod Late
pub mod All
