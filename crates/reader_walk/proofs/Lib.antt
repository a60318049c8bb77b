mod AddedBlocks
mod MarkedBlocks
mod Units
mod PacketCounts
