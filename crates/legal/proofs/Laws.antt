pub mod Votes
pub mod Lists
pub mod Next
pub mod Listing
