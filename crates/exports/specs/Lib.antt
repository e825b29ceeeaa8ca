pub mod Reply
pub mod Calls
pub mod Replays
pub mod Windows
