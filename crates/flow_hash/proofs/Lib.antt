pub mod BitLists
pub mod BothWays
pub mod Halves
pub mod HexTexts
pub mod Windows
