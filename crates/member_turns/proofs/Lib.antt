pub mod Moments
pub mod OneTurn
pub mod Closed
pub mod AllAlike
