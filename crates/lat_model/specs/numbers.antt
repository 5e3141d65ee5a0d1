-- Numbered messages of any kind: how one end keeps count of them, and what two ends then have in common.

pub mod Near
pub mod Link
pub mod Net
pub mod NetOk
