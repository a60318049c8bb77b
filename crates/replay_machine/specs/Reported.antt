-- What is reported of a closed ring.
use Rattle.std.specs.Prelude.{ℕ, Bool, List, length, None}
use Rattle.reader_walk.specs.Readers.{kept_texts, walked_of}
use Rattle.ring_model.specs.Rings.{Ring}
use Rattle.ring_model.specs.declared.notes.Note.{Note}
use Rattle.run_reports.specs.declared.reports.MemberReport.{MemberReport}
use Rattle.tp_layout.specs.Layouts.{Taken}
use Rattle.tp_layout.specs.declared.requests.RingRequest.{RingRequest}

-- what its reader read of all that was handed over, and the texts of that where they are asked for;
-- one thread ran it
abbrev pub reported_by : (RingRequest → Taken → List ℕ)
    → (RingRequest → List Note → List Taken) → RingRequest → Bool → Ring → MemberReport
reported_by text reads shape asked ring = record {
  notes = ring.notes;
  walked = walked_of (reads shape ring.notes);
  dump = kept_texts text asked shape (reads shape ring.notes);
  blocks = length (reads shape ring.notes);
  ring = None;
}
