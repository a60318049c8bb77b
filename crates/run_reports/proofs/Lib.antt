pub mod GrownBlocks
pub mod KeptPackets
pub mod ArrivalOrder
mod KeptOffers
pub mod Shorts
mod Once
mod Lasts
pub mod GroupTotals
pub mod Totals
mod PlacesLeft
