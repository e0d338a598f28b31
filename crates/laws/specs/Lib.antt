pub mod Settles
pub mod Promises
