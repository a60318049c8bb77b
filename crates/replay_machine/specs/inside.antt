-- What only this crate's own proofs and private functions cite.
pub mod RunEffects
pub mod RunRules
pub mod Members
pub mod OverRings
