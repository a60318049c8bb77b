-- What the report of a run guarantees, whatever its command.
use Rattle.std.specs.Prelude.{ℕ, Bool, List, [], ◌∷◌, map, Option, All}
use Rattle.fanout_group.specs.Arrivals.{somes}
use Rattle.fanout_group.specs.Joined.{Logged}
use Rattle.fanout_group.specs.Once.{IsGroupReport}
use Rattle.fanout_group.specs.Rules.{Rules}
use Rattle.capture_file.specs.declared.cpu_end.CpuEnd.{CpuEnd}
use Rattle.fanout_group.specs.declared.runs.CpuLog.{CpuLog}
use Rattle.frame_view.specs.declared.frames.Frame.{Frame}
use Rattle.ring_model.specs.declared.notes.Note.{Note}
use Rattle.setup_text.specs.declared.jobs.Job.{Job}
use Rattle.run_reports.specs.declared.reports.MemberReport.{MemberReport}
use Rattle.run_reports.specs.declared.reports.RunReport.{RunReport}
use Rattle.run_reports.specs.Jobs.{arriving_of, rules_of}
use Rattle.run_reports.specs.Logs.{AreLogsFrom}
use Rattle.run_reports.specs.Members.{AreShort, IsMember}
use Rattle.run_reports.specs.Once.{EachArrivalAppearsOnce}
use Rattle.run_reports.specs.RingRules.{RingRules}

-- the arrivals of each CPU and its log
abbrev pub logged : List (List (Option Frame)) → List CpuLog → List Logged
logged (arriving ∷ all) (log ∷ logs) =
    record { arrivals = somes arriving; log = log.arrivals } ∷ logged all logs
logged all logs = []

-- the notes of each member
abbrev pub notes_of : List MemberReport → List (List Note)
notes_of members = map (λ member. member.notes) members

-- the logs are lawful over the arrivals, logs and notes are joined, and each member's notes are a
-- run of its ring
pub record IsReport (rings : RingRules) (rules : Rules) (asked : Bool)
    (arriving : List (List (Option Frame))) (report : RunReport) : Type 0 where
  pub group : IsGroupReport rules rings.steps.size.room (logged arriving report.cpus)
      (notes_of report.members)
  pub members : All (IsMember rings asked) report.members

-- The report of a run over such rings, of a job whose CPUs' sources gave these bytes and ended so.
-- It holds of every command; what a command adds has a record of its own.
pub record IsRunReport (rings : RingRules) (job : Job) (bytes : List (List ℕ)) (ends : List CpuEnd)
    (report : RunReport) : Type 0 where
  -- there is a log for each source: its `frames`, `given` and `end` are those of the bytes
  pub logs : AreLogsFrom 0 bytes ends report.cpus
  -- each log is lawful over the arrivals of its bytes, and logs and notes are joined
  pub group : IsGroupReport (rules_of job) rings.steps.size.room
      (logged (arriving_of job bytes) report.cpus) (notes_of report.members)
  -- the notes of each member are a whole run of its ring; `walked`, `dump` and `blocks` are those
  -- of the notes
  pub members : All (IsMember rings job.setup.dump) report.members
  -- each arrival whose verdict isn't 0 appears once among all Kept and Dropped notes, and nothing
  -- else appears there
  pub once : EachArrivalAppearsOnce (rules_of job) (logged (arriving_of job bytes) report.cpus)
      (notes_of report.members)
  -- each packet is short enough for an output file
  pub short : AreShort report.members
