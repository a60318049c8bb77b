pub mod Works
pub mod Histories
pub mod Logs
pub mod Happened
pub mod QueueHistory
pub mod Steps
pub mod Passes
pub mod PassesInside
