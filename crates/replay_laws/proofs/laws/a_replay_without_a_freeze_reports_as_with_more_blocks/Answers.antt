use Rattle.replay_laws.specs.LargerJobs.{block_report}
use Rattle.replay_laws.proofs.laws.a_replay_without_a_freeze_reports_as_with_more_blocks.Goals as goal

pub returns : goal.returns
returns c = λ job other lines bytes ends is rolls shows more.
    c.a_job_that_never_froze_reports_as_with_more_blocks.ensures.blocks job other lines bytes ends more (λ k d within.
    c.a_member_without_a_freeze_found_none_held.ensures job bytes ends (block_report job lines bytes ends) is rolls k d within
    (shows k d within))
