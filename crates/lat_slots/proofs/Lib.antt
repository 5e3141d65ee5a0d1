pub mod TypeNumbers
pub mod Places
pub mod SlotTaken
pub mod StartFound
pub mod BodyFound
pub mod SlotFound
pub mod Exact
pub mod Written
