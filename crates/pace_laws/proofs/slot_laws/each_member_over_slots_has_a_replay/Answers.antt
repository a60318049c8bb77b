use Rattle.pace_laws.proofs.SlotAnswers.{has_group, has_replay}
use Rattle.pace_laws.proofs.slot_laws.each_member_over_slots_has_a_replay.Goals as goal

pub returns-clause-group : goal.returns-clause-group
returns-clause-group c = λ sizing pace slots phase from h. has_group sizing pace h slots phase from

pub returns-clause-member : goal.returns-clause-member
returns-clause-member c = λ sizing pace member slots phase from rolls h sound inside.
    has_replay sizing pace h rolls member slots phase from sound inside
