use Rattle.run_reports.specs.Jobs.{arriving_of}
use Rattle.run_reports.proofs.laws.a_group_s_report_is_that_of_a_run.Goals as goal

pub returns : goal.returns
returns c = λ kind job bytes ends report serves logs group. record {
  logs = logs;
  group = group.group;
  members = group.members;
  once = c.each_arrival_appears_exactly_once.ensures _ _ _ _ group.group;
  short = c.a_group_s_packets_are_short.ensures kind job (arriving_of job bytes) report serves group;
}
