use Rattle.pace_laws.proofs.BlockAnswers.{counts}
use Rattle.pace_laws.proofs.laws.a_course_counts_what_a_member_counts.Goals as goal

pub returns : goal.returns
returns c = λ sizing pace member blocks phase from rolls h sound some.
    counts sizing pace h rolls member blocks phase from sound some
