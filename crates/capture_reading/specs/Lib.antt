pub mod Sources
pub mod Pieces
pub mod Wholes
