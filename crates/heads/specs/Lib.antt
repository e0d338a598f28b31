pub mod Heads
pub mod Singles
