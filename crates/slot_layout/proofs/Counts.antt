-- A ring of slots counts packets as a ring of blocks does.
use Rattle.std.proofs.Common.{◌≡◌, ℕ, ◌+◌, Bool, true, false, cond, List, [], ◌∷◌, map, Option, None, Some, refl, ap, arith}
use Rattle.std.proofs.lemmas.List.Sums.{sum_by-cons}
use Rattle.std.specs.Prelude.{nat_lt, sum_by}
use Rattle.ring_model.specs.Fates.{counts_from, stats_of, stretches_from, sum_of}
use Rattle.ring_model.specs.Ring.{Size, State, after, after_drop, after_due}
use Rattle.ring_model.specs.declared.notes.Found.{Found}
use Rattle.ring_model.specs.declared.notes.Found.TheVariants.{NotAsked, Free, Held}
use Rattle.ring_model.specs.declared.notes.Note.{Note}
use Rattle.ring_model.specs.declared.notes.Note.TheVariants.{Kept, Refused, Dropped, Ticked, Counted, Finished}
use Rattle.ring_model.specs.declared.notes.Offer.{Offer}
use Rattle.ring_model.specs.declared.notes.Stats.{Stats}
use Rattle.slot_layout.specs.SlotFates.{slot_counts_from, slot_stats_of, slot_stretches_from, without_freezes}
use Rattle.slot_layout.specs.SlotSteps.{SlotState, slot_after}

-- the counts of the two states are the same
pub record Alike (slots : SlotState) (blocks : State) : Type 0 where
  pub kept : slots.kept ≡ blocks.kept
  pub dropped : slots.dropped ≡ blocks.dropped

alike_stats : (slots : SlotState) (blocks : State) → Alike slots blocks
    → slot_stats_of slots ≡ without_freezes (stats_of blocks)
alike_stats slots blocks h = rw (h.kept, h.dropped) refl

alike_kept : (size : Size) (slots : SlotState) (blocks : State) (offer : Offer) (found : Found) → Alike slots blocks
    → Alike (slot_after slots (Kept offer found)) (after size blocks (Kept offer found))
alike_kept size slots blocks offer NotAsked h = record { kept = ap (λ (n : ℕ). n + 1) h.kept; dropped = h.dropped }
alike_kept size slots blocks offer Free h = record { kept = ap (λ (n : ℕ). n + 1) h.kept; dropped = h.dropped }
alike_kept size slots blocks offer (Held number) h = record { kept = ap (λ (n : ℕ). n + 1) h.kept; dropped = h.dropped }

alike_drop : (slots : SlotState) (blocks : State) (now : Option (List Offer)) → Alike slots blocks
    → Alike (record slots { dropped = slots.dropped + 1 }) (after_drop blocks now)
alike_drop slots blocks None h = record { kept = h.kept; dropped = ap (λ (n : ℕ). n + 1) h.dropped }
alike_drop slots blocks (Some offers) h = record { kept = h.kept; dropped = ap (λ (n : ℕ). n + 1) h.dropped }

alike_due : (slots : SlotState) (blocks : State) (now : Option (List Offer)) (found : Found) → Alike slots blocks
    → Alike slots (after_due blocks now found)
alike_due slots blocks None NotAsked h = record { kept = h.kept; dropped = h.dropped }
alike_due slots blocks None Free h = record { kept = h.kept; dropped = h.dropped }
alike_due slots blocks None (Held number) h = record { kept = h.kept; dropped = h.dropped }
alike_due slots blocks (Some []) found h = record { kept = h.kept; dropped = h.dropped }
alike_due slots blocks (Some (offer ∷ offers)) NotAsked h = record { kept = h.kept; dropped = h.dropped }
alike_due slots blocks (Some (offer ∷ offers)) Free h = record { kept = h.kept; dropped = h.dropped }
alike_due slots blocks (Some (offer ∷ offers)) (Held number) h = record { kept = h.kept; dropped = h.dropped }

alike_if : (test : Bool) (slots : SlotState) (blocks due : State) (ms deadline : ℕ) → Alike slots blocks → Alike slots due
    → Alike slots (cond test (record blocks { clock = ms }) (record due { clock = ms; deadline = deadline }))
alike_if true slots blocks due ms deadline h d = record { kept = h.kept; dropped = h.dropped }
alike_if false slots blocks due ms deadline h d = record { kept = d.kept; dropped = d.dropped }

alike_tick : (size : Size) (slots : SlotState) (blocks : State) (ms : ℕ) (found : Found) → Alike slots blocks
    → Alike slots (after size blocks (Ticked ms found))
alike_tick size slots blocks ms found h =
    alike_if (nat_lt ms blocks.deadline) slots blocks (after_due blocks blocks.now found) ms (ms + size.tov) h
    (alike_due slots blocks blocks.now found h)

alike_count : (size : Size) (slots : SlotState) (blocks : State) → Alike (slot_after slots Counted) (after size blocks Counted)
alike_count size slots blocks = record { kept = refl; dropped = refl }

alike_finish : (size : Size) (slots : SlotState) (blocks : State) → Alike slots blocks
    → Alike slots (after size blocks Finished)
alike_finish size slots blocks h = record { kept = h.kept; dropped = h.dropped }

-- with one more entry of statistics
and_stats : (one other : Stats) (more others : List Stats) → one ≡ without_freezes other → more ≡ map without_freezes others
    → one ∷ more ≡ map without_freezes (other ∷ others)
and_stats one other more others e es = λ i. e i ∷ es i

pub counts_alike : (size : Size) (notes : List Note) (slots : SlotState) (blocks : State) → Alike slots blocks
    → slot_counts_from slots notes ≡ map without_freezes (counts_from size blocks notes)
counts_alike size [] slots blocks h = refl
counts_alike size (Kept offer found ∷ notes) slots blocks h =
    counts_alike size notes (slot_after slots (Kept offer found)) (after size blocks (Kept offer found))
    (alike_kept size slots blocks offer found h)
counts_alike size (Refused cpu index need number ∷ notes) slots blocks h = counts_alike size notes slots blocks h
counts_alike size (Dropped cpu index need number ∷ notes) slots blocks h =
    counts_alike size notes (record slots { dropped = slots.dropped + 1 }) (after_drop blocks blocks.now)
    (alike_drop slots blocks blocks.now h)
counts_alike size (Ticked ms found ∷ notes) slots blocks h =
    counts_alike size notes slots (after size blocks (Ticked ms found)) (alike_tick size slots blocks ms found h)
counts_alike size (Counted ∷ notes) slots blocks h =
    and_stats (slot_stats_of slots) (stats_of blocks) _ _ (alike_stats slots blocks h)
    (counts_alike size notes (slot_after slots Counted) (after size blocks Counted) (alike_count size slots blocks))
counts_alike size (Finished ∷ notes) slots blocks h =
    counts_alike size notes slots (after size blocks Finished) (alike_finish size slots blocks h)

pub stretches_alike : (size : Size) (notes : List Note) (slots : SlotState) (blocks : State) → Alike slots blocks
    → slot_stretches_from slots notes ≡ map without_freezes (stretches_from size blocks notes)
stretches_alike size [] slots blocks h =
    and_stats (slot_stats_of slots) (stats_of blocks) [] [] (alike_stats slots blocks h) refl
stretches_alike size (Kept offer found ∷ notes) slots blocks h =
    stretches_alike size notes (slot_after slots (Kept offer found)) (after size blocks (Kept offer found))
    (alike_kept size slots blocks offer found h)
stretches_alike size (Refused cpu index need number ∷ notes) slots blocks h = stretches_alike size notes slots blocks h
stretches_alike size (Dropped cpu index need number ∷ notes) slots blocks h =
    stretches_alike size notes (record slots { dropped = slots.dropped + 1 }) (after_drop blocks blocks.now)
    (alike_drop slots blocks blocks.now h)
stretches_alike size (Ticked ms found ∷ notes) slots blocks h =
    stretches_alike size notes slots (after size blocks (Ticked ms found)) (alike_tick size slots blocks ms found h)
stretches_alike size (Counted ∷ notes) slots blocks h =
    and_stats (slot_stats_of slots) (stats_of blocks) _ _ (alike_stats slots blocks h)
    (stretches_alike size notes (slot_after slots Counted) (after size blocks Counted) (alike_count size slots blocks))
stretches_alike size (Finished ∷ notes) slots blocks h =
    stretches_alike size notes slots (after size blocks Finished) (alike_finish size slots blocks h)

-- the sums of statistics without freezes
record SumsAlike (all : List Stats) : Type 0 where
  packets : sum_by (λ (s : Stats). s.packets) (map without_freezes all) ≡ sum_by (λ (s : Stats). s.packets) all
  drops : sum_by (λ (s : Stats). s.drops) (map without_freezes all) ≡ sum_by (λ (s : Stats). s.drops) all
  none : sum_by (λ (s : Stats). s.freezes) (map without_freezes all) ≡ 0

sums : (all : List Stats) → SumsAlike all
sums [] = record { packets = refl; drops = refl; none = refl }
sums (stats ∷ all) =
    let rest = sums all in
    let less = without_freezes stats in
    record {
      packets =
          omega (
            arith,
            rest.packets,
            sum_by-cons (λ (s : Stats). s.packets) less (map without_freezes all),
            sum_by-cons (λ (s : Stats). s.packets) stats all,
          );
      drops = omega (
        arith,
        rest.drops,
        sum_by-cons (λ (s : Stats). s.drops) less (map without_freezes all),
        sum_by-cons (λ (s : Stats). s.drops) stats all,
      );
      none = omega (arith, rest.none, sum_by-cons (λ (s : Stats). s.freezes) less (map without_freezes all));
    }

pub sums_alike : (all : List Stats) → sum_of (map without_freezes all) ≡ without_freezes (sum_of all)
sums_alike all = let all_sums = sums all in rw (all_sums.packets, all_sums.drops, all_sums.none) refl
