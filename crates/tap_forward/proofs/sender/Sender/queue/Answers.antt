use Rattle.std.proofs.Common.{◌<◌, length, ap, arith, refl}
use Rattle.frame_view.specs.Vlan.{frame_of}
use Rattle.tx_ring.specs.Rings.{room_of}
use Rattle.tap_forward.proofs.Givings.{is_short, skips}
use Rattle.tap_forward.proofs.sender.Sender.queue.Goals as goal

pub returns-then-frame-lt-LINK_HEADER-clause-given : goal.returns-then-frame-lt-LINK_HEADER-clause-given
returns-then-frame-lt-LINK_HEADER-clause-given c = λ given packet frame was.
    let same = ap length frame in
    let short : length (frame_of packet) < 14 = omega (arith, same) in
    skips c.args.self.now _ given packet refl refl refl (is_short (room_of c.args.self.now.ring.shape) packet short) was
