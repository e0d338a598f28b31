mod Near
mod Flat
mod Looking
mod Records
mod Plans
mod Judging
mod Wrong
mod Turning
mod Finishing
mod ShortCuts
mod Elements
mod Converting
mod Entering
pub mod Once
