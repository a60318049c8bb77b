-- The statistics over a run count each packet that the notes keep or drop.
use Rattle.std.proofs.Common.{◌≡◌, ℕ, ◌+◌, Bool, true, false, cond, List, [], ◌∷◌, length, Option, None, Some, arith}
use Rattle.std.proofs.lemmas.List.Sums.{sum_by-cons}
use Rattle.std.specs.Prelude.{nat_lt}
use Rattle.ring_model.specs.Fates.{drops_of, kept_of, stats_of, stretches_from, sum_of}
use Rattle.ring_model.specs.Ring.{Size, State, after, after_drop, after_due}
use Rattle.ring_model.specs.declared.notes.Offer.{Offer}
use Rattle.ring_model.specs.declared.notes.Found.{Found}
use Rattle.ring_model.specs.declared.notes.Found.TheVariants.{NotAsked, Free, Held}
use Rattle.ring_model.specs.declared.notes.Note.{Note}
use Rattle.ring_model.specs.declared.notes.Note.TheVariants.{Kept, Refused, Dropped, Ticked, Counted, Finished}
use Rattle.ring_model.specs.declared.notes.Stats.{Stats}

-- this number of packets more is kept, and this number dropped
record Adds (kept dropped : ℕ) (state later : State) : Type 0 where
  kept_more : later.kept ≡ state.kept + kept
  dropped_more : later.dropped ≡ state.dropped + dropped

drop_adds : (state : State) (now : Option (List Offer)) → Adds 0 1 state (after_drop state now)
drop_adds state None = record { kept_more = omega arith; dropped_more = omega arith }
drop_adds state (Some offers) = record { kept_more = omega arith; dropped_more = omega arith }

kept_adds : (size : Size) (state : State) (offer : Offer) (found : Found) → Adds 1 0 state (after size state (Kept offer found))
kept_adds size state offer NotAsked = record { kept_more = omega arith; dropped_more = omega arith }
kept_adds size state offer Free = record { kept_more = omega arith; dropped_more = omega arith }
kept_adds size state offer (Held number) = record { kept_more = omega arith; dropped_more = omega arith }

due_adds : (state : State) (now : Option (List Offer)) (found : Found) → Adds 0 0 state (after_due state now found)
due_adds state None NotAsked = record { kept_more = omega arith; dropped_more = omega arith }
due_adds state None Free = record { kept_more = omega arith; dropped_more = omega arith }
due_adds state None (Held number) = record { kept_more = omega arith; dropped_more = omega arith }
due_adds state (Some []) found = record { kept_more = omega arith; dropped_more = omega arith }
due_adds state (Some (offer ∷ offers)) NotAsked = record { kept_more = omega arith; dropped_more = omega arith }
due_adds state (Some (offer ∷ offers)) Free = record { kept_more = omega arith; dropped_more = omega arith }
due_adds state (Some (offer ∷ offers)) (Held number) = record { kept_more = omega arith; dropped_more = omega arith }

tick_adds : (test : Bool) (state due : State) (ms deadline : ℕ) → Adds 0 0 state due
    → Adds 0 0 state (cond test (record state { clock = ms }) (record due { clock = ms; deadline = deadline }))
tick_adds true state due ms deadline adds = record { kept_more = omega arith; dropped_more = omega arith }
tick_adds false state due ms deadline adds = record { kept_more = adds.kept_more; dropped_more = adds.dropped_more }

-- what a state counts, with what the notes after it keep and drop, are the sums from there on
pub record CountsAll (size : Size) (state : State) (notes : List Note) : Type 0 where
  pub packets : (sum_of (stretches_from size state notes)).packets
      ≡ (state.kept + state.dropped) + (length (kept_of notes) + length (drops_of notes))
  pub drops : (sum_of (stretches_from size state notes)).drops ≡ state.dropped + length (drops_of notes)

pub counts_all : (size : Size) (state : State) (notes : List Note) → CountsAll size state notes
counts_all size state [] = record { packets = omega arith; drops = omega arith }
counts_all size state (Kept offer found ∷ notes) =
    let rest = counts_all size (after size state (Kept offer found)) notes in
    let adds = kept_adds size state offer found in
    record {
      packets = omega (arith, rest.packets, adds.kept_more, adds.dropped_more);
      drops = omega (arith, rest.drops, adds.dropped_more);
    }
counts_all size state (Refused cpu index need number ∷ notes) =
    let rest = counts_all size state notes in record { packets = rest.packets; drops = rest.drops }
counts_all size state (Dropped cpu index need number ∷ notes) =
    let rest = counts_all size (after_drop state state.now) notes in
    let adds = drop_adds state state.now in
    record {
      packets = omega (arith, rest.packets, adds.kept_more, adds.dropped_more);
      drops = omega (arith, rest.drops, adds.dropped_more);
    }
counts_all size state (Ticked ms found ∷ notes) =
    let rest = counts_all size (after size state (Ticked ms found)) notes in
    let adds = tick_adds (nat_lt ms state.deadline) state (after_due state state.now found) ms (ms + size.tov)
    (due_adds state state.now found) in
    record {
      packets = omega (arith, rest.packets, adds.kept_more, adds.dropped_more);
      drops = omega (arith, rest.drops, adds.dropped_more);
    }
counts_all size state (Counted ∷ notes) =
    let rest = counts_all size (after size state Counted) notes in
    let taken = stretches_from size (after size state Counted) notes in
    record {
      packets = omega (arith, rest.packets, sum_by-cons (λ (s : Stats). s.packets) (stats_of state) taken);
      drops = omega (arith, rest.drops, sum_by-cons (λ (s : Stats). s.drops) (stats_of state) taken);
    }
counts_all size state (Finished ∷ notes) =
    let rest = counts_all size (after size state Finished) notes in record { packets = rest.packets; drops = rest.drops }
