use Rattle.reader_walk.proofs.PacketCounts.{few_packets}
use Rattle.reader_walk.proofs.laws.a_block_has_few_packets.Goals as goal

pub returns : goal.returns
returns c shape readable = few_packets shape c.args.block.now c.bytes-bytes.ensures.sound.small readable
