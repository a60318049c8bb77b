use Rattle.ring_model.specs.Ring.{first_state}
use Rattle.ring_laws.proofs.NoFreezes.{none_held}
use Rattle.ring_laws.proofs.laws.a_ring_that_counted_no_freeze_found_none_held.Goals as goal

pub returns : goal.returns
returns c = λ size notes run none zero. none_held size (first_state size) notes run tt none zero
