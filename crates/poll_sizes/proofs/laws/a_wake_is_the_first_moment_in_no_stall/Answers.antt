use Rattle.poll_sizes.proofs.WakeMoments.{first_moment}
use Rattle.poll_sizes.proofs.laws.a_wake_is_the_first_moment_in_no_stall.Goals as goal

pub returns : goal.returns
returns c stalls at = first_moment stalls at
