pub mod Mapped
pub mod GroupBeats
pub mod Keepers
pub mod RestSmall
pub mod GivenPackets
