-- The report of a run on threads.
use Rattle.std.specs.Prelude.{◌≡◌, Bool, List, [], ◌∷◌, length, Some}
use Rattle.capture_reports.specs.Reported.{taken_of_notes}
use Rattle.fanout_group.specs.declared.runs.CpuLog.{CpuLog}
use Rattle.reader_walk.specs.Readers.{dump_by, walked_of}
use Rattle.reader_walk.specs.declared.outputs.Outputs.{Outputs}
use Rattle.ring_model.specs.declared.notes.Note.{Note}
use Rattle.ring_words.specs.Pendings.{Pends}
use Rattle.run_reports.specs.declared.reports.MemberReport.{MemberReport}
use Rattle.run_reports.specs.declared.reports.RunReport.{RunReport}
use Rattle.tp_layout.specs.BlockWrites.{ShapedBytes}
use Rattle.tp_layout.specs.declared.requests.RingRequest.{RingRequest}

-- what is read of all blocks that a member's notes retired: their packets, their bytes if asked,
-- their number
pub record AreOutputsOf (shape : RingRequest) (dump : Bool) (notes : List Note) (outputs : Outputs)
    : Type 0 where
  pub walked : outputs.walked ≡ walked_of (taken_of_notes shape notes)
  pub dump_is : outputs.dump ≡ dump_by dump shape (taken_of_notes shape notes)
  pub blocks : outputs.blocks ≡ length (taken_of_notes shape notes)

-- the report of a member with these notes and this ring, of whose blocks this was read
abbrev pub member_report : List Note → Pends ShapedBytes → Outputs → MemberReport
member_report notes ring outputs = record {
  notes = notes;
  walked = outputs.walked;
  dump = outputs.dump;
  blocks = outputs.blocks;
  ring = Some ring;
}

-- and those of all members
abbrev pub member_reports : List (List Note) → List (Pends ShapedBytes) → List Outputs
    → List MemberReport
member_reports (notes ∷ all) (ring ∷ rings) (read ∷ outputs) =
    member_report notes ring read ∷ member_reports all rings outputs
member_reports all rings outputs = []

-- the report of a run with these logs
abbrev pub report_of : List CpuLog → List (List Note) → List (Pends ShapedBytes) → List Outputs
    → RunReport
report_of logs notes rings outputs = record {
  cpus = logs;
  members = member_reports notes rings outputs;
}
