pub mod SlotHappenings
pub mod SlotPasses
pub mod SlotCourses
pub mod SlotSchedules
