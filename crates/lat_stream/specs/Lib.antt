pub mod Wire
pub mod Kept
pub mod Sound
pub mod Begins
pub mod Steps
pub mod Turns
pub mod FormsOffer
pub mod RingItems
