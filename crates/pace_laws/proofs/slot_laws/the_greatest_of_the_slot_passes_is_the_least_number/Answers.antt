use Rattle.pace_laws.proofs.SlotAnswers.{is_least}
use Rattle.pace_laws.proofs.slot_laws.the_greatest_of_the_slot_passes_is_the_least_number.Goals as goal

pub returns : goal.returns
returns c = λ sizing pace tries found member rolls h tried soon inside most.
    is_least sizing pace h tries tried soon rolls member found inside most
