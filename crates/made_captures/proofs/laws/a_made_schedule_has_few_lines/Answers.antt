use Rattle.made_captures.proofs.Scheduled.{made_lines_few}
use Rattle.made_captures.proofs.laws.a_made_schedule_has_few_lines.Goals as goal

pub returns : goal.returns
returns c count cpus members most few = made_lines_few count cpus members most few
