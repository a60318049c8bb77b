-- One more note, and what the fields of a ring of slots keep.
use Rattle.std.proofs.Common.{◌≡◌, ℕ, ◌+◌, ◌^◌, ◌<◌, ◌≤◌, List, [], ◌∷◌, ◌++◌, length, refl, sym, subst, ap, arith}
use Rattle.std.proofs.Common.{length-append}
use Rattle.ring_model.specs.declared.notes.Found.{Found}
use Rattle.ring_model.specs.declared.notes.Note.{Note}
use Rattle.ring_words.specs.Rings.{Feed}
use Rattle.slot_layout.specs.SlotSteps.{SlotGoesOn, SlotMayFollow, SlotState, slot_after, slot_state_of}
use Rattle.slot_layout.proofs.Runs.{slot_counted, slot_run_push, slot_state_push}
use Rattle.v2_ring.specs.SlotMachines.{IsReserved, IsSlotAt, IsSlotFew, KeepsSlotEnd}
use Rattle.v2_ring.specs.SlotProducers.{SlotAdds, SlotKeeps, SlotLooks, SlotProducing, slots_filled}
use Rattle.v2_ring.specs.declared.machine.SlotMachine.{SlotMachine}

-- the machine has taken a step that added a note
pub record Stepped {E : Type 0} (feed : E → Feed) (old_state : SlotState) (note : Note) (before after_it : SlotMachine E)
    : Type 0 where
  pub at : IsSlotAt feed 0 (slot_after old_state note) after_it
  pub may_follow : SlotMayFollow before.shape.frame_nr old_state note
  pub end : KeepsSlotEnd (feed before.end) (feed after_it.end)
  pub shape : after_it.shape ≡ before.shape

-- one more packet overflows no count
pub few_before : (notes : List Note) → length notes < 2 ^ 39 → IsSlotFew (slot_state_of notes)
few_before notes few =
    let all = slot_counted notes in
    record { slots = omega (arith, all.slots); packets = omega (arith, all.packets) }

-- the same machine with another list of notes and other spare memory
pub at_beside : {E : Type 0} (feed : E → Feed) (s : SlotState) (machine : SlotMachine E) (notes room : _)
    → IsSlotAt feed 0 s machine
    → IsSlotAt feed 0 s (record machine { notes = notes; room = room })
at_beside feed s machine notes room a = record {
  checked = a.checked;
  places = a.places;
  kind = a.kind;
  far = a.far;
  given = a.given;
  retired_is = a.retired_is;
  texts = a.texts;
  kept_is = a.kept_is;
  dropped_is = a.dropped_is;
}

-- ---- memory was reserved

module _ {E : Type 0} (feed : E → Feed) (machine reserved : SlotMachine E) (r : IsReserved machine reserved) where
  pub at_reserved : IsSlotAt feed 0 (slot_state_of machine.notes.items) machine
      → IsSlotAt feed 0 (slot_state_of reserved.notes.items) reserved
  at_reserved a =
      subst (λ (items : List Note). IsSlotAt feed 0 (slot_state_of items) reserved) (sym r.items)
      (subst (λ m. IsSlotAt feed 0 (slot_state_of machine.notes.items) m) (sym r.same)
      (at_beside feed (slot_state_of machine.notes.items) machine reserved.notes reserved.room a))

  pub keeps_reserved : (room after : ℕ) → room ≤ after → SlotKeeps feed machine machine.notes.items room
      → SlotKeeps feed reserved reserved.notes.items after
  keeps_reserved room after more keeps =
      subst (λ (items : List Note). SlotKeeps feed reserved items after) (sym r.items)
      (subst (λ m. SlotKeeps feed m machine.notes.items after) (sym r.same) (record {
        at = at_beside feed (slot_state_of machine.notes.items) machine reserved.notes reserved.room keeps.at;
        run = keeps.run;
        last = (let last = keeps.last in omega arith);
        few = keeps.few;
      }))

  -- a step from there is one from the machine before it
  pub step_reserved : (note : Note) (after_it : SlotMachine E)
      → Stepped feed (slot_state_of reserved.notes.items) note reserved after_it
      → Stepped feed (slot_state_of machine.notes.items) note machine after_it
  step_reserved note after_it step =
      let beside = subst (λ m. Stepped feed (slot_state_of machine.notes.items) note m after_it) r.same
      (subst (λ (items : List Note). Stepped feed (slot_state_of items) note reserved after_it) r.items step) in
      record { at = beside.at; may_follow = beside.may_follow; end = beside.end; shape = beside.shape }

  pub looks_reserved : (found : Found) (after_it : Feed)
      → SlotLooks reserved.shape.frame_nr (slot_state_of reserved.notes.items) found (feed reserved.end) after_it
      → SlotLooks machine.shape.frame_nr (slot_state_of machine.notes.items) found (feed machine.end) after_it
  looks_reserved found after_it looks =
      subst (λ m. SlotLooks m.shape.frame_nr (slot_state_of machine.notes.items) found (feed m.end) after_it) r.same
      (subst (λ (items : List Note). SlotLooks reserved.shape.frame_nr (slot_state_of items) found (feed reserved.end) after_it)
      r.items looks)

-- ---- one more note

module _ {E : Type 0} (feed : E → Feed) (before after_it : SlotMachine E) (notes : List Note) (note : Note) (room : ℕ)
    (keeps : SlotKeeps feed before notes room) (step : Stepped feed (slot_state_of notes) note before after_it) where
  at_after : IsSlotAt feed 0 (slot_state_of (notes ++ note ∷ [])) after_it
  at_after = subst (λ s. IsSlotAt feed 0 s after_it) (sym (slot_state_push notes note)) step.at

  few_after : length notes < 2 ^ 39 → after_it.kept + after_it.dropped ≤ 2 ^ 39
  few_after few =
      let all = slot_counted (notes ++ note ∷ []) in
      omega (arith, all.packets, length-append notes (note ∷ []), at_after.kept_is, at_after.dropped_is)

  -- what the fields keep, with the note
  pub kept_with : (new_notes : _) (items : List Note) (room_after : ℕ) → SlotGoesOn note → items ≡ notes ++ note ∷ []
      → length notes + 1 < room_after → after_it.kept + after_it.dropped ≤ 2 ^ 39
      → SlotKeeps feed (record after_it { notes = new_notes }) items room_after
  kept_with new_notes items room_after on pushed last few = rw pushed (record {
    at = at_beside feed _ after_it new_notes after_it.room at_after;
    run = rw step.shape (slot_run_push before.shape.frame_nr notes note keeps.run step.may_follow on);
    last = (let more = length-append notes (note ∷ []) in omega arith);
    few = few;
  })

  pub kept_on : (new_notes : _) (items : List Note) (room_after : ℕ) → SlotGoesOn note → items ≡ notes ++ note ∷ []
      → length notes + 1 < room_after → length notes < 2 ^ 39
      → SlotKeeps feed (record after_it { notes = new_notes }) items room_after
  kept_on new_notes items room_after on pushed last few = kept_with new_notes items room_after on pushed last (few_after few)

  -- and what the call did
  pub added : (items : List Note) → items ≡ notes ++ note ∷ []
      → SlotAdds feed
      (record { shape = before.shape; notes = notes; end = before.end })
      (record { shape = after_it.shape; notes = items; end = after_it.end }) note
  added items pushed = rw pushed (record {
    shape = step.shape;
    notes = refl;
    may_follow = step.may_follow;
    texts = at_after.texts;
    end = step.end;
  })

-- an end that is the same
pub same_end : (before after_it : Feed) → after_it ≡ before → KeepsSlotEnd before after_it
same_end before after_it same = record {
  ring = ap (λ (f : Feed). f.ring) same;
  freed = ap (λ (f : Feed). f.freed) same;
  fetched = ap (λ (f : Feed). f.fetched) same;
  holds = (let holds = ap (λ (f : Feed). f.holds) same in omega arith);
}

-- what is known of the fields is known of what contracts see
pub adds_given : {E : Type 0} (feed : E → Feed) (inside given after_it : SlotProducing E) → inside ≡ given → (note : Note)
    → SlotAdds feed inside after_it note → SlotAdds feed given after_it note
adds_given feed inside given after_it e note adds = subst (λ p. SlotAdds feed p after_it note) e adds

pub looks_given : {E : Type 0} (feed : E → Feed) (inside given : SlotProducing E) → inside ≡ given
    → (found : Found) (after_it : Feed)
    → SlotLooks inside.shape.frame_nr (slots_filled inside) found (feed inside.end) after_it
    → SlotLooks given.shape.frame_nr (slots_filled given) found (feed given.end) after_it
looks_given feed inside given e found after_it looks =
    subst (λ p. SlotLooks p.shape.frame_nr (slots_filled p) found (feed p.end) after_it) e looks
