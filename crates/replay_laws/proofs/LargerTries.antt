-- The tries of rings that never found a block held are those of larger rings.
use Rattle.std.proofs.Common.{◌≡◌, ℕ, zero, suc, ◌+◌, ◌%◌, ◌<◌, Bool, true, false, cond, List, [], ◌∷◌, ◌++◌, length}
use Rattle.std.proofs.Common.{get_or, inl, inr, refl, sym, ap, subst, ◌∙◌, arith}
use Rattle.std.specs.Prelude.{◌==◌}
use Rattle.std.proofs.lemmas.Bool.{cases_lt}
use Rattle.std.proofs.lemmas.List.{get_or_past}
use Rattle.ring_model.specs.KnownReleases.{put_by, try_by}
use Rattle.ring_model.specs.Rings.{Ring}
use Rattle.ring_model.specs.declared.notes.Note.{Note}
use Rattle.ring_model.specs.declared.notes.Note.TheVariants.{Refused}
use Rattle.ring_model.specs.declared.notes.Offer.{Offer}
use Rattle.fanout_group.specs.Rules.{Rules, rolls_over}
use Rattle.fanout_group.specs.Routes.{a_try}
use Rattle.fanout_group.specs.declared.logs.Fate.TheVariants as fates
use Rattle.replay_laws.specs.Larger.{IsLarger}
use Rattle.receive_ring.specs.Replay.{Tried, and_then, fate_of}
use Rattle.receive_ring.specs.Replay.{no_ring}
use Rattle.receive_ring.specs.Replay.{noted_at, or_put_at, put_at, routed, tries_of, try_round}
use Rattle.run_reports.specs.RingSteps.{RingSteps, try_note}
use Rattle.replay_laws.proofs.AlikeRings.{Alike, AllAlike, as_many, get_alike, noted_alike}
use Rattle.replay_laws.proofs.Helds.{all_helds, found_held, noted_inside, or_put_grows}
use Rattle.replay_laws.proofs.Helds.{put_grows}
use Rattle.replay_laws.proofs.Helds.{put_held, round_grows, then_grows, tick_held, try_held}

pub record Agree (steps larger : RingSteps) : Type 0 where
  pub size : IsLarger steps.size larger.size
  pub finds : (one other : Ring) (offer : Offer) → Alike one other → found_held (steps.finds one offer) ≡ 0
      → larger.finds other offer ≡ steps.finds one offer
  pub ticks : (one other : Ring) (ms : ℕ) → Alike one other → tick_held (steps.ticks one ms) ≡ 0
      → larger.ticks other ms ≡ steps.ticks one ms
  pub retired : (one other : Ring) → Alike one other → larger.retired other ≡ steps.retired one
  -- a member that isn't there
  pub outside : (offer : Offer) → larger.finds no_ring offer ≡ steps.finds no_ring offer

pub record SameTries (one other : Tried) : Type 0 where
  pub tries : other.tries ≡ one.tries
  pub kept : other.kept ≡ one.kept
  pub members : AllAlike one.members other.members

module _ (steps larger : RingSteps) (agree : Agree steps larger) where
  -- what an offer finds at a member, if it finds nothing held
  same_finds : (ones others : List Ring) (at : ℕ) (offer : Offer) → AllAlike ones others
      → (at < length ones → found_held (steps.finds (get_or ones at no_ring) offer) ≡ 0)
      → larger.finds (get_or others at no_ring) offer ≡ steps.finds (get_or ones at no_ring) offer
  same_finds ones others at offer h free = elim (cases_lt at (length ones)) [
    | inl inside ↦ agree.finds (get_or ones at no_ring) (get_or others at no_ring) offer (get_alike ones others at h)
        (free inside)
    | inr beyond ↦
        let first = get_or_past ones at no_ring (omega arith) in
        let second = get_or_past others at no_ring (omega (arith, as_many ones others h)) in
        ap (λ (ring : Ring). larger.finds ring offer) second ∙ agree.outside offer
        ∙ sym (ap (λ (ring : Ring). steps.finds ring offer) first)
  ]

  put_same : (ones others : List Ring) (at : ℕ) (offer : Offer) → AllAlike ones others
      → all_helds (put_at steps at offer ones).members ≡ 0
      → SameTries (put_at steps at offer ones) (put_at larger at offer others)
  put_same ones others at offer h none =
      let found = steps.finds (get_or ones at no_ring) offer in
      let same = ap (put_by offer) (same_finds ones others at offer h (λ inside.
      omega (arith, none, noted_inside at (put_by offer found) ones inside, put_held offer found))) in
      record {
        tries = ap (λ (note : Note). a_try at (fate_of note) ∷ []) same;
        kept = refl;
        members = noted_alike ones others at (put_by offer found) _ h same;
      }

  then_same : (at : ℕ) (note : Note) (ones others : List Ring) (one other : Tried) → AllAlike ones others
      → (all_helds one.members ≡ 0 → SameTries one other)
      → all_helds (and_then at note ones one).members ≡ 0
      → SameTries (and_then at note ones one) (and_then at note others other)
  then_same at (Refused cpu index need number) ones others one other h rest none =
      let same = rest none in
      record { tries = ap (λ tries. a_try at fates.Refused ∷ tries) same.tries; kept = same.kept; members = same.members }
  then_same at note ones others one other h rest none = record { tries = refl; kept = refl; members = h }

  round_same : (count left at : ℕ) (offer : Offer) (ones others : List Ring) → AllAlike ones others
      → all_helds (try_round steps count left at offer ones).members ≡ 0
      → SameTries (try_round steps count left at offer ones) (try_round larger count left at offer others)
  round_same count zero at offer ones others h none = record { tries = refl; kept = refl; members = h }
  round_same count (suc left) at offer ones others h none =
      let next = (at + 1) % count in
      let found = steps.finds (get_or ones at no_ring) offer in
      let note = try_by offer found in
      let later = noted_at at note ones in
      let rest = try_round steps count left next offer later in
      let grows = then_grows at note (all_helds later) later rest (omega arith)
      (round_grows steps count left next offer later) in
      let same : try_note larger (get_or others at no_ring) offer ≡ note =
      ap (try_by offer) (same_finds ones others at offer h (λ inside.
      omega (arith, none, grows, noted_inside at note ones inside, try_held offer found))) in
      let alike = noted_alike ones others at note _ h same in
      let both : all_helds rest.members ≡ 0
      → SameTries rest
      (try_round larger count left next offer (noted_at at (try_note larger (get_or others at no_ring) offer) others)) =
      round_same count left next offer later (noted_at at (try_note larger (get_or others at no_ring) offer) others) alike in
      subst (λ (n : Note). SameTries (and_then at note later rest)
      (and_then at n (noted_at at (try_note larger (get_or others at no_ring) offer) others)
      (try_round larger count left next offer (noted_at at (try_note larger (get_or others at no_ring) offer) others))))
      (sym same)
      (then_same at note later _ rest _ alike both none)

  or_put_same : (one other first second : Tried) (kept : Bool) → SameTries one other
      → (all_helds first.members ≡ 0 → SameTries first second)
      → all_helds (cond kept one (record first { tries = one.tries ++ first.tries })).members ≡ 0
      → SameTries (cond kept one (record first { tries = one.tries ++ first.tries }))
      (cond kept other (record second { tries = other.tries ++ second.tries }))
  or_put_same one other first second true h put none = h
  or_put_same one other first second false h put none =
      let same = put none in
      record { tries = cc (h.tries, same.tries); kept = same.kept; members = same.members }

  routed_same : (rules : Rules) (home : ℕ) (offer : Offer) (ones others : List Ring) (rolls : Bool) → AllAlike ones others
      → all_helds (cond rolls (or_put_at steps home offer (try_round steps rules.members rules.members home offer ones))
      (put_at steps home offer ones)).members ≡ 0
      → SameTries (cond rolls (or_put_at steps home offer (try_round steps rules.members rules.members home offer ones))
      (put_at steps home offer ones))
      (cond rolls (or_put_at larger home offer (try_round larger rules.members rules.members home offer others))
      (put_at larger home offer others))
  routed_same rules home offer ones others false h none = put_same ones others home offer h none
  routed_same rules home offer ones others true h none =
      let one = try_round steps rules.members rules.members home offer ones in
      let other = try_round larger rules.members rules.members home offer others in
      let grows = or_put_grows steps home offer one (put_at steps home offer one.members) one.kept
      (put_grows steps home offer one.members) in
      let same = round_same rules.members rules.members home offer ones others h (omega (arith, none, grows)) in
      subst (λ (kept : Bool). SameTries (or_put_at steps home offer one)
      (cond kept other (record (put_at larger home offer other.members)
      { tries = other.tries ++ (put_at larger home offer other.members).tries })))
      (sym same.kept)
      (or_put_same one other (put_at steps home offer one.members) (put_at larger home offer other.members) one.kept same
      (put_same one.members other.members home offer same.members) none)

  judged_same : (rules : Rules) (home : ℕ) (offer : Offer) (ones others : List Ring) (refuses : Bool) → AllAlike ones others
      → all_helds (cond refuses (record { tries = []; kept = false; members = ones })
      (routed rules steps home offer ones)).members ≡ 0
      → SameTries (cond refuses (record { tries = []; kept = false; members = ones }) (routed rules steps home offer ones))
      (cond refuses (record { tries = []; kept = false; members = others }) (routed rules larger home offer others))
  judged_same rules home offer ones others true h none = record { tries = refl; kept = refl; members = h }
  judged_same rules home offer ones others false h none =
      routed_same rules home offer ones others (rolls_over rules) h none

  pub tries_same : (rules : Rules) (home : ℕ) (offer : Offer) (verdict : ℕ) (ones others : List Ring) → AllAlike ones others
      → all_helds (tries_of rules steps home offer verdict ones).members ≡ 0
      → SameTries (tries_of rules steps home offer verdict ones) (tries_of rules larger home offer verdict others)
  tries_same rules home offer verdict ones others h none = judged_same rules home offer ones others (verdict == 0) h none
