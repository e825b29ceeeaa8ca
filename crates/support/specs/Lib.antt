pub mod Support
pub mod Window
pub mod Kept
