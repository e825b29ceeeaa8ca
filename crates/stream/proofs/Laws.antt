pub mod Lines
pub mod Added
pub mod Stream
pub mod Reading
pub mod Run
pub mod Feed
pub mod Driven
