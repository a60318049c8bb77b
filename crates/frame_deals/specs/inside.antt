-- What only this crate's own proofs and private functions cite.
pub mod Chunks
pub mod Merges
