pub mod Epochs
pub mod Book
pub mod Replay
pub mod Claim
pub mod Mainnet
