use Rattle.fanout_group.proofs.RisingPlaces.{arrivals_are_of}
use Rattle.fanout_group.proofs.laws.arrivals_rise.Goals as goal

pub returns : goal.returns
returns c = arrivals_are_of
