-- What only this crate's own proofs and private functions cite.
pub mod Stopped
pub mod Passes
pub mod Measured
pub mod SizeAnswers
