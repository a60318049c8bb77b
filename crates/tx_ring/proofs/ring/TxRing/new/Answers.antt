use Rattle.tx_ring.proofs.Moves.{opened}
use Rattle.tx_ring.proofs.Requests.{some_slots}
use Rattle.tx_ring.proofs.ring.TxRing.new.Goals as goal

pub invariant_of-result : goal.invariant_of-result
invariant_of-result c =
    rw c.in_ok-slots.ensures.empty
    (opened c.args.shape c.args.skip_bad (some_slots c.args.shape c.requires) c.in_ok-slots.ensures.least)
