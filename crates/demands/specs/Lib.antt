pub mod Demands
pub mod Definitions
