use Rattle.replay_machine.proofs.JobReports.{is_run, rings_are}
use Rattle.replay_machine.proofs.laws.a_job_reports_a_group.Goals as goal

pub returns : goal.returns
returns c = record {
  run = is_run c.frames_are_numbered.ensures c.a_replay_reports_a_group.ensures c.a_group_s_report_is_that_of_a_run.ensures;
  rings = rings_are c.frames_are_numbered.ensures c.a_replay_reports_a_group.ensures;
}
