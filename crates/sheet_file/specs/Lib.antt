pub mod Layout
pub mod Post
