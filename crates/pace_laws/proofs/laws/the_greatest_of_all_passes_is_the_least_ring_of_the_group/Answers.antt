use Rattle.pace_laws.proofs.BlockAnswers.{is_group_least}
use Rattle.pace_laws.proofs.laws.the_greatest_of_all_passes_is_the_least_ring_of_the_group.Goals as goal

pub returns : goal.returns
returns c = λ sizing pace tries found h tried soon most. is_group_least sizing pace h tries tried soon found most
