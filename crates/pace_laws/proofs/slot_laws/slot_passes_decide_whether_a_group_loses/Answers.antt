use Rattle.pace_laws.proofs.SlotAnswers.{group_decides}
use Rattle.pace_laws.proofs.slot_laws.slot_passes_decide_whether_a_group_loses.Goals as goal

pub returns : goal.returns
returns c = λ sizing pace slots phase from h sound some. group_decides sizing pace h slots phase from sound some
