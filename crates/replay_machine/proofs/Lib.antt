pub mod Clocks
pub mod Whole
pub mod RingGroups
pub mod RunRoutes
pub mod RunArrivals
pub mod RunCounts
pub mod Timed
pub mod RunSteps
pub mod Lines
pub mod WholeRuns
pub mod GroupReports
pub mod ReadBlocks
pub mod MemberSteps
pub mod OneMore
mod JobReports
mod Replayed
