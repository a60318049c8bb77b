pub mod Texts
pub mod OpenBlocks
pub mod Machines
pub mod CallNotes
pub mod Producers
pub mod TickErrors
pub mod WalkerSteps
