pub mod Consumed
pub mod Fronts
pub mod Kept
pub mod Taken
mod FileLists
mod Writes
mod Tries
