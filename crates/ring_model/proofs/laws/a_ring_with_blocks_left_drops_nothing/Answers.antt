use Rattle.ring_model.specs.Ring.{first_state}
use Rattle.ring_model.proofs.Drops.{none_dropped}
use Rattle.ring_model.proofs.laws.a_ring_with_blocks_left_drops_nothing.Goals as goal

pub returns : goal.returns
returns c = λ size notes run few. none_dropped size (first_state size) notes run few
