pub mod Paces
pub mod Sizings
pub mod LeastRings
pub mod JobSizings
