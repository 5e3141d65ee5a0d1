-- One end of a circuit: its numbers, its sessions, its timers.

pub mod End
pub mod Timers
pub mod Run
pub mod Starting
