pub mod Waiting
pub mod Post
