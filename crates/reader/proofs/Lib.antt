pub mod Last
pub mod Finishing
pub mod Entries
pub mod Once
