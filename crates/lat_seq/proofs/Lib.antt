-- The sides of a direction as those of an end of the model.
pub mod Links
