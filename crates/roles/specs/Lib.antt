pub mod Plan
pub mod Meaning
pub mod Numbers
pub mod ShortCut
