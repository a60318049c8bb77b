pub mod Looks
pub mod Kept
pub mod Runs
pub mod Counts
pub mod Drops
mod SlotPuts
pub mod SlotBounds
pub mod SlotNumbers
pub mod SlotPasses
pub mod SlotReads
pub mod SlotTold
