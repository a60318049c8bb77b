use Rattle.tx_ring.proofs.Stops.{stopped_for_good}
use Rattle.tx_ring.proofs.laws.a_bad_slot_stops_for_good.Goals as goal

pub returns : goal.returns
returns c = stopped_for_good
