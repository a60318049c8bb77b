pub mod Histories
pub mod SeatKnowledge
pub mod Turns
pub mod Steps
pub mod Seats
pub mod SeatsInside
pub mod Endings
pub mod History
