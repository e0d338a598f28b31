pub mod Assign
pub mod Root
pub mod Shared
pub mod Value
pub mod Links
pub mod Groups
pub mod Starts
