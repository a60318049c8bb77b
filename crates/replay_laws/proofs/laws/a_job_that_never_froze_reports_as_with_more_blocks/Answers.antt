use Rattle.replay_laws.proofs.LargerReports.{blocks_never_froze, slots_never_froze}
use Rattle.replay_laws.proofs.laws.a_job_that_never_froze_reports_as_with_more_blocks.Goals as goal

pub returns : goal.returns
returns c = record { blocks = blocks_never_froze; slots = slots_never_froze }
