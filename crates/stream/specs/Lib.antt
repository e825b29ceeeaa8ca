pub mod Lines
pub mod Added
pub mod Stream
pub mod Run
pub mod Driven
