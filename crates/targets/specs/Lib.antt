pub mod Outcome
pub mod Post
