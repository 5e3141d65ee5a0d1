-- What a step that puts and takes nothing leaves of sessions, of tables of circuits and of cores.
pub mod Goes
pub mod Walk
pub mod Tables
pub mod Ids
pub mod Peers
