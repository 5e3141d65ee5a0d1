-- The slots and the sessions of one end, and two ends joined by the slots on their way. No frame, no loss, no time.

pub mod Slots
pub mod Session
pub mod Sessions
pub mod Calls
pub mod Offers
pub mod Packing
pub mod Hearing
pub mod EndOk
pub mod PeersApart
pub mod MayForm
pub mod Joined
