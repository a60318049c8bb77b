pub mod Files
pub mod Saves
pub mod inside
