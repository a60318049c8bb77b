pub mod Dealings
pub mod Deals
pub mod FileReadings
pub mod inside
