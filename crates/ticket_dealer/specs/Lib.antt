pub mod Tickets
pub mod Hands
pub mod Dealt
pub mod Deals
pub mod Steps
pub mod Seats
pub mod SeatsInside
