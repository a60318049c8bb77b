use Rattle.ring_laws.proofs.Bounds.{bounds}
use Rattle.ring_laws.proofs.laws.a_ring_of_a_run_is_within_its_bounds.Goals as goal

pub returns : goal.returns
returns c = bounds
