use Rattle.pace_laws.proofs.SlotAnswers.{decides}
use Rattle.pace_laws.proofs.slot_laws.a_slot_pass_decides_whether_a_member_loses.Goals as goal

pub returns : goal.returns
returns c = λ sizing pace member slots phase from rolls h sound some.
    decides sizing pace h rolls member slots phase from sound some
