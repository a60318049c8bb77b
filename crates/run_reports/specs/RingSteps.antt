-- What the rings of a replay do at each step, where every look at a status word has the answer that
-- follows from the released blocks. In a ring of slots a slot has the block's place.
use Rattle.std.specs.Prelude.{ℕ, ◌+◌, length, nat_lt, if◌then◌else◌, Option, None, Some}
use Rattle.ring_model.specs.KnownReleases.{found_for, put_by, try_by}
use Rattle.ring_model.specs.Ring.{Size}
use Rattle.ring_model.specs.Rings.{Ring, note_of_tick, noted, state}
use Rattle.ring_model.specs.Sizes.{need_of}
use Rattle.ring_model.specs.declared.notes.Found.{Found}
use Rattle.ring_model.specs.declared.notes.Found.TheVariants.{NotAsked}
use Rattle.ring_model.specs.declared.notes.Note.{Note}
use Rattle.ring_model.specs.declared.notes.Note.TheVariants.{Ticked}
use Rattle.ring_model.specs.declared.notes.Offer.{Offer}
use Rattle.run_reports.specs.declared.ring_kind.RingKind.{RingKind}
use Rattle.run_reports.specs.declared.ring_kind.RingKind.TheVariants.{Blocks, Slots}
use Rattle.slot_layout.specs.SlotReleases.{slot_look}
use Rattle.slot_layout.specs.SlotRings.{slot_state}

pub record RingSteps : Type 0 where
  -- the size of each ring
  pub size : Size
  -- what an offer finds
  pub finds : Ring → Offer → Found
  -- what a tick at a moment in milliseconds finds; nothing where a ring has no timer
  pub ticks : Ring → ℕ → Option Found
  -- how many blocks were handed to the reader
  pub retired : Ring → ℕ

-- the note of a packet that the ring keeps or drops
abbrev pub put_note : RingSteps → Ring → Offer → Note
put_note steps ring offer = put_by offer (steps.finds ring offer)

-- the note of a packet that the ring keeps or hands back
abbrev pub try_note : RingSteps → Ring → Offer → Note
try_note steps ring offer = try_by offer (steps.finds ring offer)

-- the ring after a tick that found this
abbrev pub ticked_by : Option Found → ℕ → Ring → Ring
ticked_by None ms ring = ring
ticked_by (Some found) ms ring = noted ring (Ticked ms found)

-- the ring after a tick
abbrev pub ticked : RingSteps → ℕ → Ring → Ring
ticked steps ms ring = ticked_by (steps.ticks ring ms) ms ring

-- the ring after its reader has read a block, if one is retired and not yet released
abbrev pub read_by : RingSteps → Ring → Ring
read_by steps ring =
    if nat_lt ring.released (steps.retired ring)
    then record ring { released = ring.released + 1 } else ring

-- what the note of a tick says was found
abbrev pub found_in : Note → Found
found_in (Ticked ms found) = found
found_in note = NotAsked

-- what rings of blocks of this size do
abbrev pub block_steps : Size → RingSteps
block_steps size = record {
  size = size;
  finds = λ ring offer. found_for ring.size ring.released (state ring) (need_of offer.snap);
  ticks = λ ring ms. Some (found_in (note_of_tick ring ms));
  retired = λ ring. length (state ring).done;
}

-- what rings of slots of this size do: a ring of slots has no timer
abbrev pub slot_steps : Size → RingSteps
slot_steps size = record {
  size = size;
  finds = λ ring offer. slot_look ring.size.blocks ring.released (slot_state ring);
  ticks = λ ring ms. None;
  retired = λ ring. length (slot_state ring).done;
}

-- what rings of a kind and of this size do
abbrev pub steps_by : RingKind → Size → RingSteps
steps_by Blocks size = block_steps size
steps_by Slots size = slot_steps size
