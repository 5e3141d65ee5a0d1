-- One server, one node and all frames between them, and what holds of every run.

pub mod Machines
pub mod Young
pub mod Bears
pub mod Reports
pub mod Ties
pub mod Spans
pub mod Safe
pub mod Histories
pub mod Tally
pub mod Home
pub mod Refusals
