pub mod Headers
pub mod Lanes
