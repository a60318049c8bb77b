use Rattle.pace_laws.proofs.BlockAnswers.{has_group, has_replay}
use Rattle.pace_laws.proofs.laws.each_member_has_a_replay.Goals as goal

pub returns-clause-group : goal.returns-clause-group
returns-clause-group c = λ sizing pace blocks phase from h. has_group sizing pace h blocks phase from

pub returns-clause-member : goal.returns-clause-member
returns-clause-member c = λ sizing pace member blocks phase from rolls h sound some inside.
    has_replay sizing pace h rolls member blocks phase from sound some inside
