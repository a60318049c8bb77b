use Rattle.run_reports.proofs.Shorts.{are_short}
use Rattle.run_reports.proofs.laws.a_group_s_packets_are_short.Goals as goal

pub returns : goal.returns
returns c = are_short
