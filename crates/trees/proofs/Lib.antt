mod Masks
mod Shapes
pub mod Walks
pub mod Whole
