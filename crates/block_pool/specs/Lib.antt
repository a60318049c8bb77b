pub mod Pieces
pub mod Takers
pub mod Workers
pub mod inside
