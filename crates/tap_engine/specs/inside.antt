-- What only this crate's own proofs and private functions cite.
pub mod Answers
pub mod Dones
pub mod Loads
pub mod Replays
pub mod Sources
