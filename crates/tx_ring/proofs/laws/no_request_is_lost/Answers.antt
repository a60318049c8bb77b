use Rattle.tx_ring.proofs.Stops.{none_lost}
use Rattle.tx_ring.proofs.laws.no_request_is_lost.Goals as goal

pub returns : goal.returns
returns c = none_lost
