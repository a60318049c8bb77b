pub mod GivenBytes
mod NextPieces
