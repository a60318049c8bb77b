-- What a report needs to know of the rings of a group, and what rings of blocks and of slots are.
use Rattle.std.specs.Prelude.{ℕ, Bool, false, List, length, ⊤}
use Rattle.ring_model.specs.Fates.{totals_of}
use Rattle.ring_model.specs.Ring.{IsWholeRun, Size, state_of}
use Rattle.ring_model.specs.declared.notes.Note.{Note}
use Rattle.ring_model.specs.declared.notes.Stats.{Stats}
use Rattle.run_reports.specs.RingSteps.{RingSteps, block_steps, slot_steps}
use Rattle.run_reports.specs.declared.ring_kind.RingKind.{RingKind}
use Rattle.run_reports.specs.declared.ring_kind.RingKind.TheVariants.{Blocks, Slots}
use Rattle.slot_layout.specs.SlotDump.{slot_dump_of}
use Rattle.slot_layout.specs.SlotFates.{slot_totals_of}
use Rattle.slot_layout.specs.SlotShapes.{IsSlotShape, slot_size_of}
use Rattle.slot_layout.specs.SlotSteps.{IsWholeSlotRun, slot_state_of}
use Rattle.tp_layout.specs.Dump.{dump_of}
use Rattle.tp_layout.specs.Requests.{fills_hash, size_of}
use Rattle.tp_layout.specs.declared.requests.RingRequest.{RingRequest}

pub record RingRules : Type 1 where
  -- their size, and what they do at each step
  pub steps : RingSteps
  -- how many blocks or slots each ring has
  pub places : ℕ
  -- the notes go from the opening of such a ring to its close
  pub IsWhole : List Note → Type 0
  -- whether a packet has the hash of its flow
  pub fills : Bool
  -- the bytes of all that was handed to the reader
  pub dump : List Note → List ℕ
  -- how many blocks or slots were handed to the reader
  pub handed : List Note → ℕ
  -- the statistics over a whole run
  pub totals : List Note → Stats

-- the notes of a ring of a kind and of this size go from its opening to its close
abbrev pub IsWholeBy : RingKind → Size → List Note → Type 0
IsWholeBy Blocks size notes = IsWholeRun size notes
IsWholeBy Slots size notes = IsWholeSlotRun size.blocks notes

-- rings of blocks (TPACKET_V3) of this shape
abbrev pub block_rules : RingRequest → RingRules
block_rules shape = record {
  steps = block_steps (size_of shape);
  places = shape.block_nr;
  IsWhole = IsWholeBy Blocks (size_of shape);
  fills = fills_hash shape;
  dump = λ notes. dump_of shape notes;
  handed = λ notes. length (state_of (size_of shape) notes).done;
  totals = totals_of (size_of shape);
}

-- rings of slots (TPACKET_V2) of this shape: a packet has no hash there
abbrev pub slot_rules : RingRequest → RingRules
slot_rules shape = record {
  steps = slot_steps (slot_size_of shape);
  places = shape.frame_nr;
  IsWhole = IsWholeBy Slots (slot_size_of shape);
  fills = false;
  dump = λ notes. slot_dump_of notes;
  handed = λ notes. length (slot_state_of notes).done;
  totals = slot_totals_of;
}

-- rings of a kind
abbrev pub rules_by : RingKind → RingRequest → RingRules
rules_by Blocks shape = block_rules shape
rules_by Slots shape = slot_rules shape

-- the shape of a job's rings serves for this kind: each serves for blocks, and one for slots came
-- from `check_v2`
abbrev pub Serves : RingKind → RingRequest → Type 0
Serves Blocks shape = ⊤
Serves Slots shape = IsSlotShape shape
