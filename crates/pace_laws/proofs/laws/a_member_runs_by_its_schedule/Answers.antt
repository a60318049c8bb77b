use Rattle.pace_laws.proofs.BlockAnswers.{had}
use Rattle.pace_laws.proofs.laws.a_member_runs_by_its_schedule.Goals as goal

pub returns : goal.returns
returns c = λ sizing pace member blocks phase from rolls h sound some.
    had sizing pace h rolls member blocks phase from sound some
