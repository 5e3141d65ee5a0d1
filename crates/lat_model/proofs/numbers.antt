-- Numbers, and two ends that know nothing of slots.
pub mod Nears
pub mod Net
