pub mod Entries
pub mod EntryLaws
pub mod Seats
pub mod TurnEffects
pub mod Closings
pub mod Tries
pub mod TryLaws
