pub mod Takers
pub mod Dumps
pub mod Texts
pub mod Readers
pub mod ReadersInside
