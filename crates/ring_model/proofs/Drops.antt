-- Retired blocks only grow in number, and a drop needs as many of them as the ring has blocks.
use Rattle.std.proofs.Common.{◌≡◌, ℕ, ◌+◌, ◌<◌, ◌≤◌, Bool, true, false, cond, List, [], ◌∷◌, ◌++◌, length, Option, None, Some}
use Rattle.std.proofs.Common.{refl, arith, length-append}
use Rattle.std.specs.Prelude.{nat_lt}
use Rattle.ring_model.specs.Fates.{drops_of}
use Rattle.ring_model.specs.Ring.{Size, State, IsRun, MayFollow, after, after_all, after_drop, after_due, retired, finished}
use Rattle.ring_model.specs.Ring.{open_count, status_of}
use Rattle.ring_model.specs.declared.notes.Offer.{Offer}
use Rattle.ring_model.specs.declared.notes.Found.{Found}
use Rattle.ring_model.specs.declared.notes.Found.TheVariants.{NotAsked, Free, Held}
use Rattle.ring_model.specs.declared.notes.Note.{Note}
use Rattle.ring_model.specs.declared.notes.Note.TheVariants.{Kept, Refused, Dropped, Ticked, Counted, Finished}

retired_grows : (done : List (List Offer × ℕ)) (status : ℕ) (now : Option (List Offer))
    → length done ≤ length (retired done status now)
retired_grows done status None = omega arith
retired_grows done status (Some offers) = omega (arith, length-append done ((offers, status) ∷ []))

finished_grows : (done : List (List Offer × ℕ)) (status : ℕ) (now : Option (List Offer))
    → length done ≤ length (finished done status now)
finished_grows done status None = omega arith
finished_grows done status (Some []) = omega arith
finished_grows done status (Some (offer ∷ offers)) =
    omega (arith, length-append done ((offer ∷ offers, status) ∷ []))

drop_grows : (state : State) (now : Option (List Offer))
    → length (after_drop state now).done ≡ length state.done + open_count now
drop_grows state None = omega arith
drop_grows state (Some offers) = length-append state.done _

due_grows : (state : State) (now : Option (List Offer)) (found : Found)
    → length state.done ≤ length (after_due state now found).done
due_grows state None NotAsked = omega arith
due_grows state None Free = omega arith
due_grows state None (Held number) = omega arith
due_grows state (Some []) found = omega arith
due_grows state (Some (offer ∷ offers)) NotAsked =
    omega (arith, length-append state.done ((offer ∷ offers, status_of true state) ∷ []))
due_grows state (Some (offer ∷ offers)) Free =
    omega (arith, length-append state.done ((offer ∷ offers, status_of true state) ∷ []))
due_grows state (Some (offer ∷ offers)) (Held number) =
    omega (arith, length-append state.done ((offer ∷ offers, status_of true state) ∷ []))

tick_grows : (test : Bool) (state due : State) (ms deadline : ℕ) → length state.done ≤ length due.done
    → length state.done ≤ length (cond test (record state { clock = ms }) (record due { clock = ms; deadline = deadline })).done
tick_grows true state due ms deadline h = omega arith
tick_grows false state due ms deadline h = h

pub grows : (size : Size) (state : State) (note : Note) → length state.done ≤ length (after size state note).done
grows size state (Kept offer NotAsked) = omega arith
grows size state (Kept offer Free) = retired_grows state.done _ state.now
grows size state (Kept offer (Held number)) = retired_grows state.done _ state.now
grows size state (Refused cpu index need number) = omega arith
grows size state (Dropped cpu index need number) = omega (arith, drop_grows state state.now)
grows size state (Ticked ms found) =
    tick_grows (nat_lt ms state.deadline) state (after_due state state.now found) ms (ms + size.tov)
    (due_grows state state.now found)
grows size state Counted = omega arith
grows size state Finished = finished_grows state.done _ state.now

pub all_grows : (size : Size) (state : State) (notes : List Note) → length state.done ≤ length (after_all size state notes).done
all_grows size state [] = omega arith
all_grows size state (note ∷ notes) =
    omega (arith, grows size state note, all_grows size (after size state note) notes)

pub none_dropped : (size : Size) (state : State) (notes : List Note) → IsRun size state notes
    → length (after_all size state notes).done < size.blocks → drops_of notes ≡ []
none_dropped size state [] run few = refl
none_dropped size state (Kept offer found ∷ notes) run few =
    none_dropped size (after size state (Kept offer found)) notes run.2 few
none_dropped size state (Refused cpu index need number ∷ notes) run few = none_dropped size state notes run.2 few
none_dropped size state (Dropped cpu index need number ∷ notes) run few =
    let held = run.0.1 in
    absurd (omega (
      arith,
      held.0,
      held.1,
      drop_grows state state.now,
      all_grows size (after size state (Dropped cpu index need number)) notes,
    ))
none_dropped size state (Ticked ms found ∷ notes) run few =
    none_dropped size (after size state (Ticked ms found)) notes run.2 few
none_dropped size state (Counted ∷ notes) run few = none_dropped size (after size state Counted) notes run.2 few
none_dropped size state (Finished ∷ notes) run few = none_dropped size (after size state Finished) notes run.2 few
