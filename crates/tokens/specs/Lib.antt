pub mod Kind
pub mod Bool
pub mod Token
pub mod Cause
pub mod Check
