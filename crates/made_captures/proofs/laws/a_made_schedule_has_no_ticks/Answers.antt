use Rattle.made_captures.proofs.Scheduled.{made_lines_ascend}
use Rattle.made_captures.proofs.laws.a_made_schedule_has_no_ticks.Goals as goal

pub returns : goal.returns
returns c count cpus members = made_lines_ascend count cpus members
