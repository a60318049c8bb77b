pub mod RecordCopies
pub mod Lists
pub mod Records
pub mod Steps
pub mod Whole
pub mod PcapFeeds
pub mod PcapOutcomes
pub mod PcapEnds
pub mod PcapFrames
pub mod PcapDamage
pub mod PcapUncut
pub mod PcapReadBack
pub mod PcapVectors
pub mod Formats
pub mod LastingDamage
pub mod Damage
pub mod Frames
pub mod ReadBack
pub mod Joined
pub mod KeptBytes
mod RecordBytes
mod Pieces
