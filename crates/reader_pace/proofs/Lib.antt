pub mod Accepted
pub mod DraftLines
pub mod Ends
pub mod Feeds
pub mod MemoryErrors
pub mod SaidSlots
pub mod Schedules
pub mod Timelines
