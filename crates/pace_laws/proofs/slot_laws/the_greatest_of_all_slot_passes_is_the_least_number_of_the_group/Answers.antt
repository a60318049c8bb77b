use Rattle.pace_laws.proofs.SlotAnswers.{is_group_least}
use Rattle.pace_laws.proofs.slot_laws.the_greatest_of_all_slot_passes_is_the_least_number_of_the_group.Goals as goal

pub returns : goal.returns
returns c = λ sizing pace tries found h tried soon most. is_group_least sizing pace h tries tried soon found most
