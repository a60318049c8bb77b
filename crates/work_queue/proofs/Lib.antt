mod Places
mod Moves
mod Splits
pub mod Counts
mod Fresh
pub mod Goings
