pub mod Record
pub mod ForkVotes
pub mod Replay
pub mod Rounds
pub mod Steps
pub mod Mainnet
pub mod StepsExample
