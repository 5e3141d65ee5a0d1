pub mod ReadBack
pub mod Before
