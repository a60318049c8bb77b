use Rattle.pace_laws.proofs.SlotAnswers.{had}
use Rattle.pace_laws.proofs.slot_laws.a_member_over_slots_runs_by_its_schedule.Goals as goal

pub returns : goal.returns
returns c = λ sizing pace member slots phase from rolls h sound. had sizing pace h rolls member slots phase from sound
