-- What a printed line shows of a ring, and a job whose rings have more blocks, or slots, than
-- another's.
use Rattle.std.specs.Prelude.{◌≡◌, ℕ, ◌≤◌, List}
use Rattle.capture_file.specs.declared.cpu_end.CpuEnd.{CpuEnd}
use Rattle.replay_machine.specs.Runs.{report_of}
use Rattle.ring_model.specs.Fates.{totals_of}
use Rattle.run_reports.specs.RingRules.{block_rules, slot_rules}
use Rattle.run_reports.specs.declared.reports.MemberReport.{MemberReport}
use Rattle.run_reports.specs.declared.reports.RunReport.{RunReport}
use Rattle.setup_text.specs.declared.jobs.Job.{Job}
use Rattle.setup_text.specs.declared.lines.Line.{Line}
use Rattle.tp_layout.specs.Requests.{size_of}
use Rattle.tp_layout.specs.declared.requests.RingRequest.{RingRequest}

-- the report of a replay over rings of blocks, of sources that gave these bytes and ended so
abbrev pub block_report : Job → List Line → List (List ℕ) → List CpuEnd → RunReport
block_report job lines all ends = report_of (block_rules job.setup.shape) job lines all ends

-- and over rings of slots
abbrev pub slot_report : Job → List Line → List (List ℕ) → List CpuEnd → RunReport
slot_report job lines all ends = report_of (slot_rules job.setup.shape) job lines all ends

-- the line of a member over a ring of this shape has `freezes 0`
abbrev pub ShowsNoFreeze : RingRequest → MemberReport → Type 0
ShowsNoFreeze shape member = (totals_of (size_of shape) member.notes).freezes ≡ 0

-- a shape with these numbers of blocks and frames
abbrev pub reshaped : RingRequest → ℕ → ℕ → RingRequest
reshaped shape blocks frames = record shape { block_nr = blocks; frame_nr = frames }

-- the other job has rings with these numbers of blocks and frames, and all else the same
pub record IsReshaped (blocks frames : ℕ) (job other : Job) : Type 0 where
  pub setup : other.setup ≡ record job.setup {
    request = other.setup.request;
    shape = reshaped job.setup.shape blocks frames;
  }
  pub program : other.program ≡ job.program

-- the other job has rings with as many blocks or more, and all else the same
pub record HasMoreBlocks (job other : Job) : Type 0 where
  pub blocks : ℕ
  pub frames : ℕ
  pub reshaped_is : IsReshaped blocks frames job other
  pub more : job.setup.shape.block_nr ≤ blocks

-- the same of slots: each frame of a setup is one
pub record HasMoreSlots (job other : Job) : Type 0 where
  pub blocks : ℕ
  pub frames : ℕ
  pub reshaped_is : IsReshaped blocks frames job other
  pub more : job.setup.shape.frame_nr ≤ frames
