-- Every event of a machine is a list of events of the world of circuits.
pub mod Leads
pub mod Mades
pub mod Servers
pub mod Nodes
pub mod Tied
pub mod Ratings
