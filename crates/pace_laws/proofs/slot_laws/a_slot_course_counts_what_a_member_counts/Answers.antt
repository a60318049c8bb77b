use Rattle.pace_laws.proofs.SlotAnswers.{counts}
use Rattle.pace_laws.proofs.slot_laws.a_slot_course_counts_what_a_member_counts.Goals as goal

pub returns : goal.returns
returns c = λ sizing pace member slots phase from rolls h sound.
    counts sizing pace h rolls member slots phase from sound
