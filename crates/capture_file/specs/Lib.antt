pub mod Batches
pub mod Pcap
pub mod Capture
pub mod Output
pub mod PcapDecoders
pub mod Decoders
pub mod Feeds
pub mod Laws
