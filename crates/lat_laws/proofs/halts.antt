-- What holds behind the halt of a machine.
pub mod Parts
pub mod Stays
pub mod Dead
pub mod Answered
pub mod Idle
pub mod Once
