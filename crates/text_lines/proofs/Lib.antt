mod LineCuts
mod Positions
mod WordCuts
mod Digits
mod LinesOfStr
pub mod Readings
pub mod Kept
pub mod Small
