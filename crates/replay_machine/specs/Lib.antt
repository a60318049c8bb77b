pub mod Deliveries
pub mod GroupLaws
pub mod RingGroups
pub mod RunStates
pub mod Runs
pub mod inside
pub mod Reported
