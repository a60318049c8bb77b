pub mod Captures
pub mod Counts
pub mod Files
pub mod Prints
pub mod Texts
