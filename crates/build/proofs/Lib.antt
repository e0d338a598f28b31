pub mod Rules
pub mod Ways
pub mod Results
pub mod Ends
pub mod Makes
pub mod Lent
pub mod Converts
pub mod Steps
