pub mod Timers
pub mod Walks
pub mod Feeds
pub mod WorkerEffects
pub mod Runs
pub mod Reports
pub mod inside
