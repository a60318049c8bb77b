-- The statistics of two rings that go on alike.
use Rattle.std.proofs.Common.{◌≡◌, ℕ, ◌+◌, Bool, true, false, cond, List, [], ◌∷◌, Option}
use Rattle.std.proofs.Common.{refl, sym, ap, subst, ◌∙◌, arith}
use Rattle.std.specs.Prelude.{nat_lt}
use Rattle.std.proofs.lemmas.Grind.{common_steps}
use Rattle.ring_laws.specs.Alike.{AreLikeNotes, AreLikeStats, AreMoments, Gap, IsLikeFound, IsLikeState, KeepsSnaps, renamed}
use Rattle.ring_model.specs.Fates.{stats_of, stretches_from}
use Rattle.ring_model.specs.Ledgers.{plus}
use Rattle.ring_model.specs.Ring.{Size, State, after, after_drop, after_due}
use Rattle.ring_model.specs.declared.notes.Found.{Found}
use Rattle.ring_model.specs.declared.notes.Note.{Note}
use Rattle.ring_model.specs.declared.notes.Note.TheVariants.{Kept, Refused, Dropped, Ticked, Counted, Finished}
use Rattle.ring_model.specs.declared.notes.Offer.{Offer}
use Rattle.ring_model.specs.declared.notes.Stats.{Stats}
use Rattle.ring_laws.proofs.LikeNotes.{early_like}
use Rattle.ring_laws.proofs.LikeStates.{after_like}

-- both counted the same
record Even (one other later other_later : State) : Type 0 where
  kept : later.kept + other.kept ≡ other_later.kept + one.kept
  dropped : later.dropped + other.dropped ≡ other_later.dropped + one.dropped
  freezes : later.freezes + other.freezes ≡ other_later.freezes + one.freezes

-- but for what was counted before
pub record Offset (before other_before : Stats) (one other : State) : Type 0 where
  pub packets : one.kept + one.dropped + other_before.packets ≡ other.kept + other.dropped + before.packets
  pub drops : one.dropped + other_before.drops ≡ other.dropped + before.drops
  pub freezes : one.freezes + other_before.freezes ≡ other.freezes + before.freezes

drop_even : (gap : Gap) (one other : State) (now : Option (List Offer))
    → Even one other (after_drop one now) (after_drop other (renamed gap now))
drop_even gap one other now =
    record { kept = grind (arith, common_steps); dropped = grind (arith, common_steps); freezes = grind (arith, common_steps) }

due_even : (gap : Gap) (one other : State) (now : Option (List Offer)) (found second : Found) → IsLikeFound gap found second
    → Even one other (after_due one now found) (after_due other (renamed gap now) second)
due_even gap one other now found second k =
    record { kept = grind (arith, common_steps); dropped = grind (arith, common_steps); freezes = grind (arith, common_steps) }

tick_even : (one other due other_due : State) (ms other_ms deadline other_deadline : ℕ) (early : Bool)
    → Even one other due other_due
    → Even one other (cond early (record one { clock = ms }) (record due { clock = ms; deadline = deadline }))
    (cond early (record other { clock = other_ms }) (record other_due { clock = other_ms; deadline = other_deadline }))
tick_even one other due other_due ms other_ms deadline other_deadline true h =
    record { kept = omega arith; dropped = omega arith; freezes = omega arith }
tick_even one other due other_due ms other_ms deadline other_deadline false h =
    record { kept = h.kept; dropped = h.dropped; freezes = h.freezes }

kept_even : (size : Size) (one other : State) (offer second : Offer) (found other_found : Found)
    → Even one other (after size one (Kept offer found)) (after size other (Kept second other_found))
kept_even size one other offer second found other_found =
    record { kept = grind (arith, common_steps); dropped = grind (arith, common_steps); freezes = grind (arith, common_steps) }

-- nothing is counted before
abbrev no_stats : Stats
no_stats = record { packets = 0; drops = 0; freezes = 0 }

module _ (gap : Gap) (snaps : KeepsSnaps gap) (size : Size) where
  drop_even_at : (one other : State) → IsLikeState gap one other
      → Even one other (after_drop one one.now) (after_drop other other.now)
  drop_even_at one other h =
      subst (λ (now : Option (List Offer)). Even one other (after_drop one one.now) (after_drop other now)) (sym h.now)
      (drop_even gap one other one.now)

  tick_even_at : (one other : State) (ms second : ℕ) (found other_found : Found) → IsLikeState gap one other
      → AreMoments gap ms second
      → IsLikeFound gap found other_found
      → Even one other (after size one (Ticked ms found)) (after size other (Ticked second other_found))
  tick_even_at one other ms second found other_found h m k =
      let due : Even one other (after_due one one.now found) (after_due other other.now other_found) =
      subst (λ (now : Option (List Offer)). Even one other (after_due one one.now found) (after_due other now other_found))
      (sym h.now)
      (due_even gap one other one.now found other_found k) in
      subst (λ (early : Bool). Even one other (after size one (Ticked ms found))
      (cond early (record other { clock = second })
      (record (after_due other other.now other_found) { clock = second; deadline = second + size.tov })))
      (sym (early_like gap snaps size ms second one.deadline other.deadline m h.deadline))
      (tick_even one other _ _ ms second (ms + size.tov) (second + size.tov) (nat_lt ms one.deadline) due)

  still : (before other_before : Stats) (one other later other_later : State) → Offset before other_before one other
      → Even one other later other_later → Offset before other_before later other_later
  still before other_before one other later other_later h e = record {
    packets = omega (arith, h.packets, e.kept, e.dropped);
    drops = omega (arith, h.drops, e.dropped);
    freezes = omega (arith, h.freezes, e.freezes);
  }

  heads : (before other_before : Stats) (one other : State) → Offset before other_before one other
      → plus (stats_of one) other_before ≡ plus (stats_of other) before
  heads before other_before one other h = cc (h.packets, h.drops, h.freezes)

  unmoved : (one other : Stats) → plus one no_stats ≡ plus other no_stats → other ≡ one
  unmoved one other e =
      let packets = ap (λ (s : Stats). s.packets) e in
      let drops = ap (λ (s : Stats). s.drops) e in
      let freezes = ap (λ (s : Stats). s.freezes) e in
      let same_packets : other.packets ≡ one.packets = omega (arith, packets) in
      let same_drops : other.drops ≡ one.drops = omega (arith, drops) in
      let same_freezes : other.freezes ≡ one.freezes = omega (arith, freezes) in
      ap (λ (n : ℕ). record { packets = n; drops = other.drops; freezes = other.freezes }) same_packets
      ∙ ap (λ (n : ℕ). record { packets = one.packets; drops = n; freezes = other.freezes }) same_drops
      ∙ ap (λ (n : ℕ). record { packets = one.packets; drops = one.drops; freezes = n }) same_freezes

  all_same : (all others : List Stats) → AreLikeStats no_stats no_stats all others → others ≡ all
  all_same [] [] h = refl
  all_same [] (second ∷ others) h = absurd h
  all_same (first ∷ all) [] h = absurd h
  all_same (first ∷ all) (second ∷ others) h = cc (unmoved first second h.0, h.1)

  pub stats_like : (notes others : List Note) (one other : State) (before other_before : Stats) → IsLikeState gap one other
      → Offset before other_before one other → AreLikeNotes gap notes others
      → AreLikeStats before other_before (stretches_from size one notes) (stretches_from size other others)
  stats_like [] [] one other before other_before h o k = (heads before other_before one other o, refl)
  stats_like [] (second ∷ others) one other before other_before h o k = absurd k
  stats_like (note ∷ notes) [] one other before other_before h o k = absurd k
  stats_like (Kept offer found ∷ notes) (Kept second other_found ∷ others) one other before other_before h o k =
      stats_like notes others _ _ before other_before
      (after_like gap snaps size one other (Kept offer found) (Kept second other_found) h k.0).like
      (still before other_before one other _ _ o (kept_even size one other offer second found other_found)) k.1
  stats_like (Refused cpu index need number ∷ notes)
      (Refused second_cpu second second_need other_number ∷ others) one other before other_before h o k =
      stats_like notes others one other before other_before h o k.1
  stats_like (Dropped cpu index need number ∷ notes)
      (Dropped second_cpu second second_need other_number ∷ others) one other before other_before h o k =
      stats_like notes others _ _ before other_before
      (after_like gap snaps size one other (Dropped cpu index need number)
      (Dropped second_cpu second second_need other_number) h k.0).like
      (still before other_before one other _ _ o (drop_even_at one other h)) k.1
  stats_like (Ticked ms found ∷ notes) (Ticked second other_found ∷ others) one other before other_before h o k =
      stats_like notes others _ _ before other_before
      (after_like gap snaps size one other (Ticked ms found) (Ticked second other_found) h k.0).like
      (still before other_before one other _ _ o (tick_even_at one other ms second found other_found h k.0.0 k.0.1)) k.1
  stats_like (Counted ∷ notes) (Counted ∷ others) one other before other_before h o k = (
    heads before other_before one other o,
    all_same _ _ (stats_like notes others (after size one Counted) (after size other Counted) no_stats no_stats
        (after_like gap snaps size one other Counted Counted h tt).like
        (record { packets = refl; drops = refl; freezes = refl }) k.1),
  )
  stats_like (Finished ∷ notes) (Finished ∷ others) one other before other_before h o k =
      stats_like notes others _ _ before other_before (after_like gap snaps size one other Finished Finished h tt).like
      (still before other_before one other _ _ o
      (record { kept = omega arith; dropped = omega arith; freezes = omega arith })) k.1
  stats_like (note ∷ notes) (second ∷ others) one other before other_before h o k = absurd k.0

  pub begins_offset : (one other : State) → Offset (stats_of one) (stats_of other) one other
  begins_offset one other = record { packets = omega arith; drops = omega arith; freezes = omega arith }
