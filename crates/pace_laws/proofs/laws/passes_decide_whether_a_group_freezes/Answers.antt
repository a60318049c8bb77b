use Rattle.pace_laws.proofs.BlockAnswers.{group_decides}
use Rattle.pace_laws.proofs.laws.passes_decide_whether_a_group_freezes.Goals as goal

pub returns : goal.returns
returns c = λ sizing pace blocks phase from h sound some. group_decides sizing pace h blocks phase from sound some
