use Rattle.std.proofs.Common.{◌<◌, length, Some, sym, ap, ◌∙◌, arith}
use Rattle.std.proofs.lemmas.Bool.{lt-ltb}
use Rattle.tx_ring.specs.Rings.{TxState, status_of}
use Rattle.tx_ring.proofs.Moves.{status_is}
use Rattle.tx_ring.proofs.ring.TxRing.status.Goals as goal

pub returns-then-slot-frame_nr : goal.returns-then-slot-frame_nr
returns-then-slot-frame_nr c =
    let inside = c.self.inside in
    let slots = inside.slots in
    let keeps = c.self.invariant in
    let frames = ap (λ (ring : TxState). ring.shape.frame_nr) c.self.view_is in
    let below : c.args.slot < c.args.self.now.shape.frame_nr = omega (arith, frames, c.frame_nr.ensures) in
    let within : c.args.slot < length slots = omega (arith, keeps.places, frames) in
    let status = c.status.ensures ∙ keeps.marks c.args.slot within
    ∙ sym (status_is inside.shape inside.skip_bad slots inside.placed inside.taken inside.stopped c.args.slot keeps.order)
    ∙ ap (λ (ring : TxState). status_of ring c.args.slot) c.self.view_is in
    rw (lt-ltb c.args.slot c.args.self.now.shape.frame_nr below) (ap Some status)
