-- What one note more does to the state of a ring of slots, to its counts and to its run.
use Rattle.std.proofs.Common.{◌≡◌, ℕ, ◌+◌, ◌≤◌, List, [], ◌∷◌, ◌++◌, length, refl, arith, length-append}
use Rattle.ring_model.specs.KnownReleases.{put_by, try_by}
use Rattle.ring_model.specs.Ring.{EndsThere}
use Rattle.ring_model.specs.declared.notes.Found.{Found}
use Rattle.ring_model.specs.declared.notes.Found.TheVariants.{NotAsked, Free, Held}
use Rattle.ring_model.specs.declared.notes.Note.{Note}
use Rattle.ring_model.specs.declared.notes.Note.TheVariants.{Kept, Refused, Dropped, Ticked, Counted, Finished}
use Rattle.ring_model.specs.declared.notes.Offer.{Offer}
use Rattle.slot_layout.specs.SlotSteps.{IsOpenSlotRun, IsSlotRun, IsWholeSlotRun, SlotGoesOn, SlotMayFollow, SlotState}
use Rattle.slot_layout.specs.SlotSteps.{first_slot_state, slot_after, slot_after_all, slot_state_of, slot_status}

pub slot_after_all-push : (s : SlotState) (notes : List Note) (note : Note)
    → slot_after_all s (notes ++ note ∷ []) ≡ slot_after (slot_after_all s notes) note
slot_after_all-push s [] note = refl
slot_after_all-push s (first ∷ notes) note = slot_after_all-push (slot_after s first) notes note

pub slot_state_push : (notes : List Note) (note : Note)
    → slot_state_of (notes ++ note ∷ []) ≡ slot_after (slot_state_of notes) note
slot_state_push notes note = slot_after_all-push first_slot_state notes note

run_push_from : (slots : ℕ) (s : SlotState) (notes : List Note) (note : Note) → IsOpenSlotRun slots s notes
    → SlotMayFollow slots (slot_after_all s notes) note → SlotGoesOn note → IsOpenSlotRun slots s (notes ++ note ∷ [])
run_push_from slots s [] note run may_follow on = (may_follow, on, tt)
run_push_from slots s (first ∷ notes) note run may_follow on =
    (run.0, run.1, run_push_from slots (slot_after s first) notes note run.2 may_follow on)

-- one more note that may follow and doesn't close the ring
pub slot_run_push : (slots : ℕ) (notes : List Note) (note : Note) → IsOpenSlotRun slots first_slot_state notes
    → SlotMayFollow slots (slot_state_of notes) note → SlotGoesOn note
    → IsOpenSlotRun slots first_slot_state (notes ++ note ∷ [])
slot_run_push slots notes note run may_follow on = run_push_from slots first_slot_state notes note run may_follow on

ends_later : (note : Note) (notes : List Note) → SlotGoesOn note → EndsThere note notes
ends_later (Kept offer found) notes on = tt
ends_later (Refused cpu index need number) notes on = tt
ends_later (Dropped cpu index need number) notes on = tt
ends_later (Ticked ms found) notes on = tt
ends_later Counted notes on = tt
ends_later Finished notes on = elim on [ ]

close_from : (slots : ℕ) (s : SlotState) (notes : List Note) → IsOpenSlotRun slots s notes
    → IsSlotRun slots s (notes ++ Finished ∷ [])
close_from slots s [] run = (tt, refl, tt)
close_from slots s (first ∷ notes) run =
    (run.0, ends_later first (notes ++ Finished ∷ []) run.1, close_from slots (slot_after s first) notes run.2)

-- the note that closes the ring
pub slot_run_closed : (slots : ℕ) (notes : List Note) → IsOpenSlotRun slots first_slot_state notes
    → IsWholeSlotRun slots (notes ++ Finished ∷ [])
slot_run_closed slots notes run = record { run = close_from slots first_slot_state notes run; closed = (notes, refl) }

pub slot_goes_put : (offer : Offer) (found : Found) → SlotGoesOn (put_by offer found)
slot_goes_put offer NotAsked = tt
slot_goes_put offer Free = tt
slot_goes_put offer (Held number) = tt

pub slot_goes_try : (offer : Offer) (found : Found) → SlotGoesOn (try_by offer found)
slot_goes_try offer NotAsked = tt
slot_goes_try offer Free = tt
slot_goes_try offer (Held number) = tt

-- the counts of a state are at most the number of its notes
pub record IsSlotCounted (s : SlotState) (count : ℕ) : Type 0 where
  pub slots : length s.done ≤ count
  pub packets : s.kept + s.dropped ≤ count

counted_after : (s : SlotState) (note : Note) (count : ℕ) → IsSlotCounted s count
    → IsSlotCounted (slot_after s note) (count + 1)
counted_after s (Kept offer found) count few =
    let more = length-append s.done ((offer, slot_status s offer) ∷ []) in
    record { slots = omega (arith, few.slots, more); packets = omega (arith, few.packets) }
counted_after s (Refused cpu index need number) count few =
    record { slots = omega (arith, few.slots); packets = omega (arith, few.packets) }
counted_after s (Dropped cpu index need number) count few =
    record { slots = omega (arith, few.slots); packets = omega (arith, few.packets) }
counted_after s (Ticked ms found) count few = record { slots = omega (arith, few.slots); packets = omega (arith, few.packets) }
counted_after s Counted count few = record { slots = omega (arith, few.slots); packets = omega (arith, few.packets) }
counted_after s Finished count few = record { slots = omega (arith, few.slots); packets = omega (arith, few.packets) }

counted_from : (s : SlotState) (notes : List Note) (count : ℕ) → IsSlotCounted s count
    → IsSlotCounted (slot_after_all s notes) (count + length notes)
counted_from s [] count few = record { slots = omega (arith, few.slots); packets = omega (arith, few.packets) }
counted_from s (note ∷ notes) count few =
    let rest = counted_from (slot_after s note) notes (count + 1) (counted_after s note count few) in
    record { slots = omega (arith, rest.slots); packets = omega (arith, rest.packets) }

-- the counts of a ring are at most those of its notes
pub slot_counted : (notes : List Note) → IsSlotCounted (slot_state_of notes) (length notes)
slot_counted notes =
    let all = counted_from first_slot_state notes 0 (record { slots = omega arith; packets = omega arith }) in
    record { slots = omega (arith, all.slots); packets = omega (arith, all.packets) }
