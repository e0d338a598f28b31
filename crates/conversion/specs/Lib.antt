pub mod Conversion
pub mod TargetRule
pub mod Entry
