use Rattle.std.proofs.Common.{sym, subst, List}
use Rattle.std.proofs.lemmas.Result.{IfOk-weaker}
use Rattle.cpu_feeders.proofs.MemberReports.{all_reported}
use Rattle.cpu_feeders.proofs.report.report_run.Goals as goal

pub returns-clause-ran : goal.returns-clause-ran
returns-clause-ran c = λ job moments bytes ends group read.
    let reported = all_reported job.setup.shape job.setup.dump c.args.notes.items c.args.rings.items c.args.outputs.items
    c.requires.rings c.in_ok-members.members
    c.in_ok-members.ensures read in (
      c.threads_report_a_run.ensures job moments bytes ends c.args.notes.items c.args.rings.items _ group reported,
      c.threads_report_a_capture.ensures job moments bytes ends c.args.notes.items c.args.rings.items _ group reported,
    )
