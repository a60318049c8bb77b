use Rattle.ring_sizes.proofs.NoFreeze.{no_freeze_iff}
use Rattle.ring_sizes.proofs.laws.a_ring_never_freezes_where_it_counts_no_freeze.Goals as goal

pub returns : goal.returns
returns c size all plain some = no_freeze_iff size all plain some
