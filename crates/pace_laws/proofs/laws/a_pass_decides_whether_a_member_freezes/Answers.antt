use Rattle.pace_laws.proofs.BlockAnswers.{decides}
use Rattle.pace_laws.proofs.laws.a_pass_decides_whether_a_member_freezes.Goals as goal

pub returns : goal.returns
returns c = λ sizing pace member blocks phase from rolls h sound some.
    decides sizing pace h rolls member blocks phase from sound some
