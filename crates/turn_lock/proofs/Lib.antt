pub mod Lists
mod Histories
mod PlacesApart
mod TicketDraws
mod TicketLooks
mod TurnEnds
mod LockStarts
mod SeatJoins
mod LockEnds
mod Historical
pub mod SeatLists
mod Calls
