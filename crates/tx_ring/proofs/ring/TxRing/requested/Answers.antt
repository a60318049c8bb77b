use Rattle.std.proofs.Common.{sym}
use Rattle.tx_ring.proofs.Moves.{count_of}
use Rattle.tx_ring.proofs.ring.TxRing.requested.Goals as goal

pub returns : goal.returns
returns c = sym (count_of c.self.invariant c.self.view_is)
