pub mod Plans
pub mod FileNames
pub mod Stores
pub mod MissedFiles
