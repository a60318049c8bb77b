pub mod Alike
pub mod Beginnings
pub mod Runs
pub mod Freezes
