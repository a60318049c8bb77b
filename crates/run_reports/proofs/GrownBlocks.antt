-- A note adds at most one retired block after those before it.
use Rattle.std.proofs.Common.{◌≡◌, ℕ, ◌+◌, ◌≤◌, Bool, true, false, cond, List, [], ◌∷◌, ◌++◌, length, Option, None, Some, refl}
use Rattle.std.proofs.Common.{sym, ap, ◌∙◌, arith, length-append, take}
use Rattle.std.specs.Prelude.{nat_lt}
use Rattle.std.proofs.lemmas.List.{append-nil, take-append-le}
use Rattle.ring_model.specs.Ring.{Size, State, after, after_all, after_drop, after_due, first_state, retired, finished}
use Rattle.ring_model.specs.Ring.{status_of, state_of}
use Rattle.ring_model.specs.declared.notes.Offer.{Offer}
use Rattle.ring_model.specs.declared.notes.Found.{Found}
use Rattle.ring_model.specs.declared.notes.Found.TheVariants.{NotAsked, Free, Held}
use Rattle.ring_model.specs.declared.notes.Note.{Note}
use Rattle.ring_model.specs.declared.notes.Note.TheVariants.{Kept, Refused, Dropped, Ticked, Counted, Finished}

-- one more block, or none
pub record Grows (before now : List (List Offer × ℕ)) : Type 0 where
  pub more : List (List Offer × ℕ)
  pub is : now ≡ before ++ more
  pub one : length more ≤ 1

same : (done : List (List Offer × ℕ)) → Grows done done
same done = record { more = []; is = sym (append-nil done); one = omega arith }

one_more : (done : List (List Offer × ℕ)) (block : List Offer × ℕ) → Grows done (done ++ block ∷ [])
one_more done block = record { more = block ∷ []; is = refl; one = omega arith }

by_retired : (done : List (List Offer × ℕ)) (status : ℕ) (now : Option (List Offer)) → Grows done (retired done status now)
by_retired done status None = same done
by_retired done status (Some offers) = one_more done (offers, status)

by_finished : (done : List (List Offer × ℕ)) (status : ℕ) (now : Option (List Offer)) → Grows done (finished done status now)
by_finished done status None = same done
by_finished done status (Some []) = same done
by_finished done status (Some (offer ∷ offers)) = one_more done (offer ∷ offers, status)

by_drop : (s : State) (now : Option (List Offer)) → Grows s.done (after_drop s now).done
by_drop s None = same s.done
by_drop s (Some offers) = one_more s.done (offers, status_of false s)

by_due : (s : State) (now : Option (List Offer)) (found : Found) → Grows s.done (after_due s now found).done
by_due s None NotAsked = same s.done
by_due s None Free = same s.done
by_due s None (Held number) = same s.done
by_due s (Some []) found = same s.done
by_due s (Some (offer ∷ offers)) NotAsked = one_more s.done (offer ∷ offers, status_of true s)
by_due s (Some (offer ∷ offers)) Free = one_more s.done (offer ∷ offers, status_of true s)
by_due s (Some (offer ∷ offers)) (Held number) = one_more s.done (offer ∷ offers, status_of true s)

by_tick : (early : Bool) (s due : State) (ms deadline : ℕ) → Grows s.done due.done
    → Grows s.done (cond early (record s { clock = ms }) (record due { clock = ms; deadline = deadline })).done
by_tick true s due ms deadline h = same s.done
by_tick false s due ms deadline h = h

pub grows : (size : Size) (s : State) (note : Note) → Grows s.done (after size s note).done
grows size s (Kept offer NotAsked) = same s.done
grows size s (Kept offer Free) = by_retired s.done (status_of false s) s.now
grows size s (Kept offer (Held number)) = by_retired s.done (status_of false s) s.now
grows size s (Refused cpu index need number) = same s.done
grows size s (Dropped cpu index need number) = by_drop s s.now
grows size s (Ticked ms found) =
    by_tick (nat_lt ms s.deadline) s (after_due s s.now found) ms (ms + size.tov) (by_due s s.now found)
grows size s Counted = same s.done
grows size s Finished = by_finished s.done (status_of false s) s.now

few_from : (size : Size) (s : State) (notes : List Note) → length (after_all size s notes).done ≤ length s.done + length notes
few_from size s [] = omega arith
few_from size s (note ∷ notes) =
    let g = grows size s note in
    let count : length (after size s note).done ≡ length s.done + length g.more =
    ap length g.is ∙ length-append s.done g.more in
    let one = g.one in
    let rest = few_from size (after size s note) notes in
    omega (arith, count, one, rest)

-- there are no more retired blocks than notes
pub few_done : (size : Size) (notes : List Note) → length (state_of size notes).done ≤ length notes
few_done size notes = let few = few_from size (first_state size) notes in omega (arith, few)

-- the blocks at the start stay
pub front_stays : (count : ℕ) (before now : List (List Offer × ℕ)) → Grows before now → count ≤ length before
    → take count now ≡ take count before
front_stays count before now g h = ap (λ done. take count done) g.is ∙ take-append-le count before g.more h

pub state_after : (size : Size) (s : State) (notes : List Note) (note : Note)
    → after_all size s (notes ++ note ∷ []) ≡ after size (after_all size s notes) note
state_after size s [] note = refl
state_after size s (first ∷ notes) note = state_after size (after size s first) notes note

-- after one more note
pub grows_noted : (size : Size) (notes : List Note) (note : Note)
    → Grows (state_of size notes).done (state_of size (notes ++ note ∷ [])).done
grows_noted size notes note = rw (state_after size (first_state size) notes note) (grows size (state_of size notes) note)
