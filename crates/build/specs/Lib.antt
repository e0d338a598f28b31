pub mod Post
pub mod Operation
