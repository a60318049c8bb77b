use Rattle.pace_laws.proofs.BlockAnswers.{is_least}
use Rattle.pace_laws.proofs.laws.the_greatest_of_the_passes_is_the_least_ring.Goals as goal

pub returns : goal.returns
returns c = λ sizing pace tries found member rolls h tried soon inside most.
    is_least sizing pace h tries tried soon rolls member found inside most
