pub mod Rows
pub mod Records
pub mod Clear
pub mod Flat
pub mod Parts
pub mod Tests
pub mod Subtrees
pub mod Once
