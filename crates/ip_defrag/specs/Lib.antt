pub mod Datagrams
pub mod Extents
pub mod Fold
pub mod Fragments
pub mod Grouped
pub mod Held
pub mod Marks
