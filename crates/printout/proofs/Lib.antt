pub mod Room
pub mod Showing
pub mod Once
