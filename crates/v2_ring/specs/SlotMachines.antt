-- The machine of a ring of slots at a state of its notes.
use Rattle.std.specs.Prelude.{◌≡◌, ℕ, ◌+◌, ◌^◌, ◌<◌, ◌≤◌, [], length}
use Rattle.ring_words.specs.Rings.{Feed}
use Rattle.slot_layout.specs.SlotShapes.{IsSlotShape}
use Rattle.slot_layout.specs.SlotSteps.{SlotState}
use Rattle.tp_layout.specs.Requests.{numbers_of}
use Rattle.tp_layout.specs.declared.requests.RingRequest.{RingRequest}
use Rattle.v2_ring.specs.SlotContents.{RepresentsSlots}
use Rattle.v2_ring.specs.declared.machine.SlotMachine.{SlotMachine}

-- the machine is at this state, with `in_hand` slots in hand
pub record IsSlotAt {E : Type 0} (feed : E → Feed) (in_hand : ℕ) (state : SlotState)
    (machine : SlotMachine E) : Type 0 where
  pub checked : IsSlotShape machine.shape
  pub places : (feed machine.end).ring.places ≡ machine.shape.frame_nr
  pub kind : (feed machine.end).ring.kind ≡ numbers_of machine.shape
  pub far : 2 ^ 40 ≤ (feed machine.end).ring.bound
  pub given : (feed machine.end).given ≡ length state.done + in_hand
  pub retired_is : (feed machine.end).retired ≡ length state.done
  pub texts : RepresentsSlots machine.shape state.done (feed machine.end)
  pub kept_is : machine.kept ≡ state.kept
  pub dropped_is : machine.dropped ≡ state.dropped

-- one more packet overflows no count
pub record IsSlotFew (state : SlotState) : Type 0 where
  pub slots : length state.done < 2 ^ 39
  pub packets : state.kept + state.dropped < 2 ^ 39

-- what the calls of a ring leave of what its end reports
pub record KeepsSlotEnd (before after : Feed) : Type 0 where
  pub ring : after.ring ≡ before.ring
  pub freed : after.freed ≡ before.freed
  pub fetched : after.fetched ≡ before.fetched
  pub holds : before.holds ≤ after.holds

-- an end that was given nothing yet, of a ring of the slots of this shape
pub record IsFreshSlots (shape : RingRequest) (feed : Feed) : Type 0 where
  pub places : feed.ring.places ≡ shape.frame_nr
  pub kind : feed.ring.kind ≡ numbers_of shape
  pub given : feed.given ≡ 0
  pub retired_none : feed.retired ≡ 0
  pub passed : feed.passed ≡ 0
  pub shown : feed.shown ≡ []

-- memory was reserved beside a machine, and all else is as before
pub record IsReserved {E : Type 0} (before after : SlotMachine E) : Type 0 where
  pub same : after ≡ record before { notes = after.notes; room = after.room }
  pub items : after.notes.items ≡ before.notes.items
