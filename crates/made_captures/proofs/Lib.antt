pub mod Dealt
pub mod Scheduled
pub mod Texts
pub mod Whole
