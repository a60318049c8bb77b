use Rattle.std.proofs.Common.{refl}
use Rattle.slot_sizes.proofs.SlotRuns.{totals_at}
use Rattle.slot_sizes.proofs.laws.a_course_counts_what_the_slots_count.Goals as goal

pub returns : goal.returns
returns c size all plain = totals_at size all _ _ refl plain refl
