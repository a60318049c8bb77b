-- What is reported of a run with threads.
use Rattle.std.specs.Prelude.{◌≡◌, ℕ, Bool, List, [], ◌∷◌, length, ⊤, All, Some}
use Rattle.capture_file.specs.declared.cpu_end.CpuEnd.{CpuEnd}
use Rattle.fanout_group.specs.Once.{IsGroupReport}
use Rattle.fanout_group.specs.declared.runs.CpuLog.{CpuLog}
use Rattle.reader_walk.specs.Readers.{dump_by, walked_of}
use Rattle.tp_layout.specs.Layouts.{Taken}
use Rattle.ring_model.specs.Ring.{IsWholeRun, state_of}
use Rattle.ring_model.specs.declared.notes.Note.{Note}
use Rattle.ring_words.specs.Pendings.{Pends}
use Rattle.run_reports.specs.Blocks.{taken_from}
use Rattle.run_reports.specs.Jobs.{arriving_of, rules_of}
use Rattle.run_reports.specs.Logs.{AreLogsFrom}
use Rattle.run_reports.specs.Reports.{logged}
use Rattle.setup_text.specs.declared.jobs.Job.{Job}
use Rattle.run_reports.specs.declared.reports.MemberReport.{MemberReport}
use Rattle.run_reports.specs.declared.reports.RunReport.{RunReport}
use Rattle.tp_layout.specs.Requests.{room_of, size_of}
use Rattle.tp_layout.specs.BlockWrites.{ShapedBytes}
use Rattle.tp_layout.specs.declared.requests.RingRequest.{RingRequest}
use Rattle.capture_reports.specs.Closed.{AreRingsOf, IsRingOf}
use Rattle.capture_reports.specs.Timers.{IsTicked}

-- A run with threads, whatever the takers of its blocks do: the logs are those of sources that gave
-- these bytes and ended in this way, logs and notes are joined, the notes of each member are a
-- whole run of its ring, its ticks are the moments, and its ring was finished.
pub record IsGroupRun (job : Job) (moments : List ℕ) (bytes : List (List ℕ)) (ends : List CpuEnd)
    (logs : List CpuLog) (notes : List (List Note)) (rings : List (Pends ShapedBytes))
    : Type 0 where
  pub logs_are : AreLogsFrom 0 bytes ends logs
  pub group : IsGroupReport (rules_of job) (room_of job.setup.shape)
      (logged (arriving_of job bytes) logs) notes
  pub runs : All (IsWholeRun (size_of job.setup.shape)) notes
  pub ticked : All (IsTicked moments) notes
  pub rings_are : AreRingsOf job.setup.shape notes rings

-- what is read of all blocks that notes have retired
abbrev pub taken_of_notes : RingRequest → List Note → List Taken
taken_of_notes shape notes = taken_from shape 1 (state_of (size_of shape) notes).done

-- a member's report has these notes and this ring, and what a reader of all blocks returns
pub record IsReported (shape : RingRequest) (asked : Bool) (notes : List Note)
    (ring : Pends ShapedBytes) (member : MemberReport) : Type 0 where
  pub notes_are : member.notes ≡ notes
  pub ring_is : member.ring ≡ Some ring
  pub walked : member.walked ≡ walked_of (taken_of_notes shape notes)
  pub dump : member.dump ≡ dump_by asked shape (taken_of_notes shape notes)
  pub blocks : member.blocks ≡ length (taken_of_notes shape notes)

-- and the same of each member
abbrev pub AreReported : RingRequest → Bool → List (List Note) → List (Pends ShapedBytes)
    → List MemberReport → Type 0
AreReported shape asked [] [] [] = ⊤
AreReported shape asked (notes ∷ all) (ring ∷ rings) (member ∷ members) =
    IsReported shape asked notes ring member × AreReported shape asked all rings members
AreReported shape asked all rings members = ⊥

-- the report of a member holds its ring
abbrev pub HasRing : RingRequest → MemberReport → Type 0
HasRing shape member =
    (ring : Pends ShapedBytes) × (member.ring ≡ Some ring) × IsRingOf shape member.notes ring

-- what a run with threads adds to what holds of every report
pub record IsCaptured (shape : RingRequest) (moments : List ℕ) (report : RunReport) : Type 0 where
  pub ticked : All (λ member. IsTicked moments member.notes) report.members
  pub rings : All (HasRing shape) report.members
