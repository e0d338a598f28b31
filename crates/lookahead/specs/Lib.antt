pub mod ThreeWay
pub mod Entry
pub mod Cases
