use Rattle.ring_sizes.proofs.Counts.{tick_comes}
use Rattle.ring_sizes.proofs.laws.a_tick_is_counted_from_its_moment_on.Goals as goal

pub returns : goal.returns
returns c pace at number some = tick_comes pace at number some
