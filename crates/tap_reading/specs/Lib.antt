pub mod Fronts
pub mod Readers
pub mod Steps
