use Rattle.tx_ring.proofs.Moves.{taken_first}
use Rattle.tx_ring.proofs.ring.TxRing.free_front.Goals as goal

pub invariant_of-self : goal.invariant_of-self
invariant_of-self c =
    (taken_first c.self.invariant c.self.view_is c.requires.some c.requires.going c.slot_of-at.ensures.value
    c.set_status.ensures).0

pub returns : goal.returns
returns c =
    (taken_first c.self.invariant c.self.view_is c.requires.some c.requires.going c.slot_of-at.ensures.value
    c.set_status.ensures).1
