pub mod Drops
pub mod Tallies
pub mod Totals
pub mod Unreleased
mod Clocks
