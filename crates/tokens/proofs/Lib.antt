pub mod Table
pub mod Stands
mod Passed
mod Outside
mod Nesting
