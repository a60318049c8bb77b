use Rattle.std.proofs.Common.{List, sym, subst}
use Rattle.capture_reports.proofs.ReadReports.{members_are, notes_are}
use Rattle.capture_reports.proofs.laws.threads_report_a_run.Goals as goal
use Rattle.fanout_group.specs.Once.{IsGroupReport}
use Rattle.ring_model.specs.declared.notes.Note.{Note}
use Rattle.run_reports.specs.Jobs.{arriving_of, rules_of}
use Rattle.run_reports.specs.Reports.{logged}
use Rattle.run_reports.specs.declared.ring_kind.RingKind.TheVariants.{Blocks}
use Rattle.tp_layout.specs.Requests.{room_of}

pub returns : goal.returns
returns c = λ job moments bytes ends notes rings report ran are.
    c.a_group_s_report_is_that_of_a_run.ensures Blocks job bytes ends report tt ran.logs_are (record {
      group = subst (λ (all : List (List Note)). IsGroupReport (rules_of job) (room_of job.setup.shape)
          (logged (arriving_of job bytes) report.cpus) all)
          (sym (notes_are job.setup.shape job.setup.dump notes rings report.members are)) ran.group;
      members = members_are job.setup.shape job.setup.dump notes rings report.members ran.runs are;
    })
