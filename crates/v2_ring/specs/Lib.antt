pub mod SlotContents
pub mod SlotMachines
pub mod SlotProducers
pub mod SlotWalkerSteps
