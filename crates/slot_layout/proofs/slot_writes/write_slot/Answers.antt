use Rattle.std.proofs.Common.{ap}
use Rattle.tp_layout.specs.BlockWrites.{ShapedBytes}
use Rattle.slot_layout.proofs.SlotPuts.{slot_written}
use Rattle.slot_layout.proofs.slot_writes.write_slot.Goals as goal

pub returns-clause-text : goal.returns-clause-text
returns-clause-text c =
    rw (ap (λ (s : ShapedBytes). s.bytes) c.put_packet.ensures.written)
    (slot_written c.args.slot.now.shape c.status_of-status.result c.args.offer.now c.args.slot.now.bytes c.requires.sound
    c.requires.fits
    c.put_packet.ensures.typed c.status_of-status.ensures.may)
