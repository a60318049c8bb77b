use Rattle.std.proofs.Common.{refl}
use Rattle.ring_sizes.proofs.Runs.{totals_at}
use Rattle.ring_sizes.proofs.laws.a_course_counts_what_the_ring_counts.Goals as goal

pub returns : goal.returns
returns c size all plain = totals_at size.room size.blocks size.tov all _ _ refl plain refl
