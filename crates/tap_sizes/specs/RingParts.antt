-- What the rings of a setup are made of: blocks, or the slots of TPACKET_V2; and what is answered
-- of rings of either.
use Rattle.std.specs.Prelude.{ℕ, Bool, true, false}
use Rattle.pace_laws.specs.LeastRings.{AreFewestDrops, AreFewestSlotDrops, AreLeastSlots}
use Rattle.pace_laws.specs.LeastRings.{AreLeastSlotsOfGroup, AreMostDrops, AreMostSlotDrops}
use Rattle.pace_laws.specs.LeastRings.{AreFewestTotalDrops, AreFewestTotalSlotDrops}
use Rattle.pace_laws.specs.LeastRings.{AreMostTotalDrops, AreMostTotalSlotDrops}
use Rattle.pace_laws.specs.LeastRings.{IsLeastOfGroup, IsLeastRing}
use Rattle.pace_laws.specs.Sizings.{Sizing}
use Rattle.reader_pace.specs.declared.readers.PacedReader.{PacedReader}
use Rattle.ring_sizes.specs.declared.tries.Reached.{Reached}
use Rattle.ring_sizes.specs.declared.tries.Tries.{Tries}
use Rattle.run_reports.specs.declared.ring_kind.RingKind.{RingKind}
use Rattle.run_reports.specs.declared.ring_kind.RingKind.TheVariants.{Blocks, Slots}
use Rattle.setup_text.specs.declared.jobs.Job.{Job}
use Rattle.slot_layout.specs.SlotRings.{room_of_slots}
use Rattle.tap_sizes.specs.declared.ring_parts.RingParts.{RingParts}
use Rattle.tp_layout.specs.Requests.{room_of}
use Rattle.tp_layout.specs.declared.requests.RingRequest.{RingRequest}

-- what a setup's own ring is made of, which is slots where the reader's text says so
abbrev pub parts_of : Bool → RingRequest → RingParts
parts_of false shape = record {
  kind = Blocks;
  size = shape.block_size;
  room = room_of shape;
  count = shape.block_nr;
}
parts_of true shape = record {
  kind = Slots;
  size = shape.frame_size;
  room = room_of_slots shape.frame_size;
  count = shape.frame_nr;
}

abbrev pub parts_for : Job → PacedReader → RingParts
parts_for job reader = parts_of reader.slots job.setup.shape

-- a member's least ring of a kind
abbrev pub IsLeastOf : RingKind → Sizing → ℕ → Tries → Reached → Type 0
IsLeastOf Blocks sizing member tries found = IsLeastRing sizing member tries found
IsLeastOf Slots sizing member tries found = AreLeastSlots sizing member tries found

-- that of a group
abbrev pub IsGroupLeastOf : RingKind → Sizing → Tries → Reached → Type 0
IsGroupLeastOf Blocks sizing tries found = IsLeastOfGroup sizing tries found
IsGroupLeastOf Slots sizing tries found = AreLeastSlotsOfGroup sizing tries found

-- the fewest packets that a member's ring of so many blocks, or slots, drops
abbrev pub AreFewestOf : RingKind → Sizing → ℕ → ℕ → Tries → Reached → Type 0
AreFewestOf Blocks sizing member count tries found =
    AreFewestDrops sizing member count tries found
AreFewestOf Slots sizing member count tries found =
    AreFewestSlotDrops sizing member count tries found

-- and the most
abbrev pub AreMostOf : RingKind → Sizing → ℕ → ℕ → Tries → Reached → Type 0
AreMostOf Blocks sizing member count tries found = AreMostDrops sizing member count tries found
AreMostOf Slots sizing member count tries found =
    AreMostSlotDrops sizing member count tries found

-- the fewest packets that all members' rings of so many blocks, or slots, together drop
abbrev pub AreFewestTotalOf : RingKind → Sizing → ℕ → Tries → Reached → Type 0
AreFewestTotalOf Blocks sizing count tries found = AreFewestTotalDrops sizing count tries found
AreFewestTotalOf Slots sizing count tries found = AreFewestTotalSlotDrops sizing count tries found

-- and the most
abbrev pub AreMostTotalOf : RingKind → Sizing → ℕ → Tries → Reached → Type 0
AreMostTotalOf Blocks sizing count tries found = AreMostTotalDrops sizing count tries found
AreMostTotalOf Slots sizing count tries found = AreMostTotalSlotDrops sizing count tries found
