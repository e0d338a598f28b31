pub mod Terms
pub mod Terminals
