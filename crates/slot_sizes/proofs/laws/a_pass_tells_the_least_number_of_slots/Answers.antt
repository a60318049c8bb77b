use Rattle.slot_sizes.proofs.SlotNever.{never_iff}
use Rattle.slot_sizes.proofs.laws.a_pass_tells_the_least_number_of_slots.Goals as goal

pub returns : goal.returns
returns c size all some = never_iff size all some
