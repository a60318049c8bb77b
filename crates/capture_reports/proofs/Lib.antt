pub mod OwnNotes
pub mod Attempts
pub mod TicketCounts
pub mod Joint
mod FedCpus
mod ClosedMembers
mod GroupRun
mod ReadReports
pub mod OneMore
