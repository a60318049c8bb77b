use Rattle.ring_model.specs.Ring.{first_state}
use Rattle.ring_model.proofs.Clocks.{clock_from}
use Rattle.ring_model.proofs.laws.the_clock_is_that_of_the_last_tick.Goals as goal

pub returns : goal.returns
returns c size notes = clock_from size (first_state size) notes
