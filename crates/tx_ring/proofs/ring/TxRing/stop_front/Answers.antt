use Rattle.tx_ring.proofs.Moves.{stopped_first}
use Rattle.tx_ring.proofs.ring.TxRing.stop_front.Goals as goal

pub invariant_of-self : goal.invariant_of-self
invariant_of-self c =
    (stopped_first c.self.invariant c.self.view_is c.requires.some c.requires.bad c.requires.stays c.slot_of-at.ensures.value
    c.set_status.ensures).0

pub returns-clause-slot : goal.returns-clause-slot
returns-clause-slot c =
    (stopped_first c.self.invariant c.self.view_is c.requires.some c.requires.bad c.requires.stays c.slot_of-at.ensures.value
    c.set_status.ensures).2

pub returns-clause-stopped : goal.returns-clause-stopped
returns-clause-stopped c =
    (stopped_first c.self.invariant c.self.view_is c.requires.some c.requires.bad c.requires.stays c.slot_of-at.ensures.value
    c.set_status.ensures).1
