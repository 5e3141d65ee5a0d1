-- What holds behind the halt of a machine.
pub mod Dead
pub mod Idle
pub mod Once
