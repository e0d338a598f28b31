pub mod Precedence
pub mod Operator
