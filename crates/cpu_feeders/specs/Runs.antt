-- What a run with threads returns.
use Rattle.std.specs.Prelude.{◌≡◌, ℕ, List, [], ◌∷◌, ⊤, Option}
use Rattle.capture_file.specs.declared.cpu_end.CpuEnd.{CpuEnd}
use Rattle.capture_reading.specs.Sources.{AllGave}
use Rattle.capture_reports.specs.Reported.{IsCaptured, IsGroupRun, taken_of_notes}
use Rattle.fanout_group.specs.declared.runs.CpuLog.{CpuLog}
use Rattle.reader_walk.specs.Takers.{Base}
use Rattle.tp_layout.specs.Layouts.{Taken}
use Rattle.ring_model.specs.declared.notes.Note.{Note}
use Rattle.ring_words.specs.Pendings.{Pends}
use Rattle.run_reports.specs.Reports.{IsRunReport}
use Rattle.run_reports.specs.RingRules.{block_rules}
use Rattle.setup_text.specs.declared.jobs.Job.{Job}
use Rattle.run_reports.specs.declared.reports.RunReport.{RunReport}
use Rattle.tap_outside.specs.Seen.{SourceSeen}
use Rattle.tp_layout.specs.BlockWrites.{ShapedBytes}
use Rattle.tp_layout.specs.declared.requests.RingRequest.{RingRequest}

module _ {T : Type 0} (base_of : T → Base) (taken_by : T → List Taken) where
  -- a taker of blocks of this shape that has read nothing
  pub record IsFreshTaker (shape : RingRequest) (taker : T) : Type 0 where
    pub shape_is : (base_of taker).shape ≡ shape
    pub none : taken_by taker ≡ []

  -- a member's taker before and after a run: its base is as it was, and it has read the blocks that
  -- the member's notes retired, each once and in order
  pub record IsTakerOf (shape : RingRequest) (notes : List Note) (before after : T) : Type 0 where
    pub base_is : base_of after ≡ base_of before
    pub taken_is : taken_by after ≡ taken_of_notes shape notes

  -- and the same of each member
  abbrev pub AreTakersOf : RingRequest → List (List Note) → List T → List T → Type 0
  AreTakersOf shape [] [] [] = ⊤
  AreTakersOf shape (notes ∷ all) (before ∷ old) (after ∷ new) =
      IsTakerOf shape notes before after × AreTakersOf shape all old new
  AreTakersOf shape all old new = ⊥

  -- A job ran on threads, with these takers: its sources gave some bytes and ended, the logs, notes
  -- and rings are those of a group's run over them, and each member's taker has read all blocks.
  pub record IsTakerRun (job : Job) (moments : List ℕ) (old : List (Option SourceSeen))
      (before : List T) (new : List (Option SourceSeen)) (after : List T) (logs : List CpuLog)
      (notes : List (List Note)) (rings : List (Pends ShapedBytes)) : Type 0 where
    pub bytes : List (List ℕ)
    pub ends : List CpuEnd
    pub gave : AllGave old new bytes ends
    pub run : IsGroupRun job moments bytes ends logs notes rings
    pub takers : AreTakersOf job.setup.shape notes before after

-- a job ran on threads: its sources gave these bytes and ended in this way, and the report is that
-- of a run over them, with the moments reported and the rings finished
pub record IsCaptureRun (job : Job) (moments : List ℕ) (old new : List (Option SourceSeen))
    (report : RunReport) : Type 0 where
  pub bytes : List (List ℕ)
  pub ends : List CpuEnd
  pub gave : AllGave old new bytes ends
  pub run : IsRunReport (block_rules job.setup.shape) job bytes ends report
  pub captured : IsCaptured job.setup.shape moments report
