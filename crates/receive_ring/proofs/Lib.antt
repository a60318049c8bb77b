pub mod Noted
pub mod KeptOpen
pub mod Places
pub mod Rings
pub mod AddedNotes
pub mod Tries
pub mod ReplayStates
pub mod LogTickets
pub mod KeptArrivals
pub mod FedLines
pub mod ReplayEnds
pub mod OpenSlots
mod KindReports
mod WaitingBlocks
mod BlockCalls
mod SlotCalls
