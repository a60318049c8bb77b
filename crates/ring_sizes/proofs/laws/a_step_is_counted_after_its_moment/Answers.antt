use Rattle.ring_sizes.proofs.Counts.{step_comes}
use Rattle.ring_sizes.proofs.laws.a_step_is_counted_after_its_moment.Goals as goal

pub returns : goal.returns
returns c pace at number sound one = step_comes pace at number sound one
