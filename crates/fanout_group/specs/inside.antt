-- What only this crate's own proofs and private functions cite.
pub mod TryEffects
pub mod TryForms
