use Rattle.tx_ring.proofs.Moves.{placed_next}
use Rattle.tx_ring.proofs.ring.TxRing.request_next.Goals as goal

pub invariant_of-self : goal.invariant_of-self
invariant_of-self c =
    (placed_next _ c.self.invariant c.self.view_is c.requires.free c.requires.going c.slot_of-at.ensures.value
    c.request.ensures).0

pub returns : goal.returns
returns c =
    (placed_next _ c.self.invariant c.self.view_is c.requires.free c.requires.going c.slot_of-at.ensures.value
    c.request.ensures).1
