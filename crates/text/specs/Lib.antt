pub mod Text
pub mod Post
