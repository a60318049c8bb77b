pub mod SlotStates
pub mod SlotNever
pub mod SlotRuns
pub mod SlotSteps
pub mod SlotCourseSteps
pub mod SlotPhases
pub mod SlotEnds
pub mod SlotTotals
