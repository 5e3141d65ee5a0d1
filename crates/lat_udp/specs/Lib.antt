pub mod Datagrams
pub mod Faults
pub mod Peers
pub mod Aheads
