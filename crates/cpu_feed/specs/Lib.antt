pub mod CpuFeeds
pub mod Fed
pub mod Feeds
pub mod Lawful
pub mod ClosedCpus
