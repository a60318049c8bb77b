use Rattle.ring_sizes.proofs.Never.{never_iff}
use Rattle.ring_sizes.proofs.laws.a_pass_tells_the_least_ring.Goals as goal

pub returns : goal.returns
returns c size all some = never_iff size all some
