pub mod Walk
pub mod Fields
