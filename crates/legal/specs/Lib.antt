pub mod Legal
pub mod Search
pub mod Listing
