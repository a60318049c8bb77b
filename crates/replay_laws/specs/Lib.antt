pub mod Larger
pub mod LargerJobs
pub mod Alone
pub mod AlikeSlots
