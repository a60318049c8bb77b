use Rattle.std.proofs.Common.{◌∙◌, ap, sym, refl}
use Rattle.tp_layout.specs.BlockWrites.{ShapedBytes}
use Rattle.tp_layout.proofs.FilledBlocks.{packet_held}
use Rattle.tp_layout.proofs.ring_blocks.block_writers.BlockWriter.write.Goals as goal

pub returns-clause-held : goal.returns-clause-held
returns-clause-held c number packets =
    let fill = c.fill_hash-fill.ensures.value in
    packet_held c.args.shape.now number c.args.at packets c.args.offer.now c.args.self.now.bytes c.put_packet.new.self.bytes
    (record { writable = c.requires.sound; typed = rw (sym fill) c.put_packet.ensures.typed })
    (ap (λ (b : ShapedBytes). b.bytes) c.put_packet.ensures.written ∙ rw fill refl)
