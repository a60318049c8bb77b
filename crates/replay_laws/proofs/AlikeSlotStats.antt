-- The statistics of two rings of slots that go on alike.
use Rattle.std.proofs.Common.{◌≡◌, ℕ, ◌+◌, List, [], ◌∷◌, refl, ap, arith}
use Rattle.ring_laws.specs.Alike.{AreLikeNotes, AreLikeStats, Gap}
use Rattle.ring_model.specs.Ledgers.{plus}
use Rattle.ring_model.specs.declared.notes.Note.{Note}
use Rattle.ring_model.specs.declared.notes.Note.TheVariants.{Kept, Refused, Dropped, Ticked, Counted, Finished}
use Rattle.ring_model.specs.declared.notes.Stats.{Stats}
use Rattle.slot_layout.specs.SlotFates.{slot_stats_of, slot_stretches_from}
use Rattle.slot_layout.specs.SlotSteps.{SlotState, slot_after}

-- the same counted but for what was counted before
pub record Offset (before other_before : Stats) (one other : SlotState) : Type 0 where
  pub packets : one.kept + one.dropped + other_before.packets ≡ other.kept + other.dropped + before.packets
  pub drops : one.dropped + other_before.drops ≡ other.dropped + before.drops
  pub freezes : other_before.freezes ≡ before.freezes

pub begins_offset : (one other : SlotState) → Offset (slot_stats_of one) (slot_stats_of other) one other
begins_offset one other = record { packets = omega arith; drops = omega arith; freezes = refl }

heads : (before other_before : Stats) (one other : SlotState) → Offset before other_before one other
    → plus (slot_stats_of one) other_before ≡ plus (slot_stats_of other) before
heads before other_before one other o = cc (o.packets, o.drops, o.freezes)

kept : (before other_before : Stats) (one other : SlotState) (later other_later : SlotState)
    → later.kept ≡ one.kept + 1 → other_later.kept ≡ other.kept + 1 → later.dropped ≡ one.dropped
    → other_later.dropped ≡ other.dropped
    → Offset before other_before one other → Offset before other_before later other_later
kept before other_before one other later other_later p q r s o = record {
  packets = omega (arith, p, q, r, s, o.packets);
  drops = omega (arith, r, s, o.drops);
  freezes = o.freezes;
}

lost : (before other_before : Stats) (one other : SlotState) (later other_later : SlotState)
    → later.kept ≡ one.kept → other_later.kept ≡ other.kept → later.dropped ≡ one.dropped + 1
    → other_later.dropped ≡ other.dropped + 1
    → Offset before other_before one other → Offset before other_before later other_later
lost before other_before one other later other_later p q r s o = record {
  packets = omega (arith, p, q, r, s, o.packets);
  drops = omega (arith, r, s, o.drops);
  freezes = o.freezes;
}

module _ (gap : Gap) where
  -- rings that counted as much
  same_stretches : (notes others : List Note) (one other : SlotState) → other.kept ≡ one.kept
      → other.dropped ≡ one.dropped → AreLikeNotes gap notes others
      → slot_stretches_from other others ≡ slot_stretches_from one notes
  same_stretches [] [] one other p q k = cc (p, q)
  same_stretches [] (second ∷ others) one other p q k = absurd k
  same_stretches (note ∷ notes) [] one other p q k = absurd k
  same_stretches (Kept offer found ∷ notes) (Kept second other_found ∷ others) one other p q k =
      same_stretches notes others _ _ (ap (λ (n : ℕ). n + 1) p) q k.1
  same_stretches (Refused cpu index need number ∷ notes)
      (Refused second_cpu second second_need other_number ∷ others) one other p q k =
      same_stretches notes others one other p q k.1
  same_stretches (Dropped cpu index need number ∷ notes)
      (Dropped second_cpu second second_need other_number ∷ others) one other p q k =
      same_stretches notes others _ _ p (ap (λ (n : ℕ). n + 1) q) k.1
  same_stretches (Ticked ms found ∷ notes) (Ticked second other_found ∷ others) one other p q k =
      same_stretches notes others one other p q k.1
  same_stretches (Counted ∷ notes) (Counted ∷ others) one other p q k =
      cc (p, q, same_stretches notes others (slot_after one Counted) (slot_after other Counted) refl refl k.1)
  same_stretches (Finished ∷ notes) (Finished ∷ others) one other p q k = same_stretches notes others one other p q k.1
  same_stretches (note ∷ notes) (second ∷ others) one other p q k = absurd k.0

  pub stats_like : (notes others : List Note) (one other : SlotState) (before other_before : Stats)
      → Offset before other_before one other → AreLikeNotes gap notes others
      → AreLikeStats before other_before (slot_stretches_from one notes) (slot_stretches_from other others)
  stats_like [] [] one other before other_before o k = (heads before other_before one other o, refl)
  stats_like [] (second ∷ others) one other before other_before o k = absurd k
  stats_like (note ∷ notes) [] one other before other_before o k = absurd k
  stats_like (Kept offer found ∷ notes) (Kept second other_found ∷ others) one other before other_before o k =
      stats_like notes others (slot_after one (Kept offer found)) (slot_after other (Kept second other_found)) before
      other_before (kept before other_before one other _ _ refl refl refl refl o) k.1
  stats_like (Refused cpu index need number ∷ notes)
      (Refused second_cpu second second_need other_number ∷ others) one other before other_before o k =
      stats_like notes others one other before other_before o k.1
  stats_like (Dropped cpu index need number ∷ notes)
      (Dropped second_cpu second second_need other_number ∷ others) one other before other_before o k =
      stats_like notes others (slot_after one (Dropped cpu index need number))
      (slot_after other (Dropped second_cpu second second_need other_number)) before other_before
      (lost before other_before one other _ _ refl refl refl refl o) k.1
  stats_like (Ticked ms found ∷ notes) (Ticked second other_found ∷ others) one other before other_before o k =
      stats_like notes others one other before other_before o k.1
  stats_like (Counted ∷ notes) (Counted ∷ others) one other before other_before o k = (
    heads before other_before one other o,
    same_stretches notes others (slot_after one Counted) (slot_after other Counted) refl refl k.1,
  )
  stats_like (Finished ∷ notes) (Finished ∷ others) one other before other_before o k =
      stats_like notes others one other before other_before o k.1
  stats_like (note ∷ notes) (second ∷ others) one other before other_before o k = absurd k.0
