-- The tries that a replay makes of an arrival are a route, and each adds its note to its member.
use Rattle.std.proofs.Common.{◌≡◌, ℕ, zero, suc, ◌+◌, ◌%◌, ◌<◌, Bool, true, false, cond, eqb, List, [], ◌∷◌, ◌++◌, length}
use Rattle.std.proofs.Common.{get_or, inl, inr, refl, ap, ◌∙◌, arith}
use Rattle.std.specs.Prelude.{MatchBool}
use Rattle.std.proofs.lemmas.List.{length-set}
use Rattle.ring_model.specs.KnownReleases.{put_by, try_by}
use Rattle.ring_model.specs.Rings.{Ring}
use Rattle.ring_model.specs.declared.notes.Offer.{Offer}
use Rattle.ring_model.specs.declared.notes.Found.{Found}
use Rattle.ring_model.specs.declared.notes.Found.TheVariants.{NotAsked, Free, Held}
use Rattle.fanout_group.specs.Routes.{IsRoute, IsSettled, a_try, behind, refused_from}
use Rattle.fanout_group.specs.Rules.{Rules, rolls_over}
use Rattle.fanout_group.specs.declared.logs.Fate.TheVariants.{Kept, Refused}
use Rattle.fanout_group.specs.declared.logs.Try.{Try}
use Rattle.receive_ring.specs.Replay.{Tried, and_then, fate_of, no_ring, noted_at, or_put_at, put_at, tries_of, try_round}
use Rattle.receive_ring.proofs.AddedNotes.{Arrival, LeavesOpen, Spread, offered, put_tells, spread_none, spread_one}
use Rattle.receive_ring.proofs.AddedNotes.{spread_then, try_tells}
use Rattle.run_reports.specs.RingSteps.{RingSteps, put_note, try_note}
use Rattle.receive_ring.proofs.KeptOpen.{KeepOpen}

-- some members refuse from one on, and the next one keeps the packet
abbrev IsKeptWithin : ℕ → ℕ → ℕ → List Try → Type 0
IsKeptWithin members at left tries =
    (count : ℕ) × (count < left) × (tries ≡ refused_from members at count ++ a_try (behind members at count) Kept ∷ [])

-- at most n tries round the group, until one keeps the packet
abbrev IsWay : Bool → ℕ → ℕ → ℕ → List Try → Type 0
IsWay kept members at left tries = MatchBool kept (IsKeptWithin members at left tries) (tries ≡ refused_from members at left)

record Round (P : ℕ → Ring → Type 0) (a : Arrival) (members at left : ℕ) (old : List Ring) (tried : Tried) : Type 0 where
  spread : Spread P a tried.tries old tried.members
  way : IsWay tried.kept members at left tried.tries

-- the tries of an arrival whose home this is
record Routed (P : ℕ → Ring → Type 0) (a : Arrival) (rolls : Bool) (members home : ℕ) (old : List Ring) (tried : Tried)
    : Type 0 where
  spread : Spread P a tried.tries old tried.members
  route : IsRoute rolls members home tried.tries

-- the same, if the verdict may have refused the arrival
pub record Made (P : ℕ → Ring → Type 0) (a : Arrival) (rolls ended : Bool) (members home : ℕ) (old : List Ring) (tried : Tried)
    : Type 0 where
  pub spread : Spread P a tried.tries old tried.members
  pub tries : MatchBool ended (tried.tries ≡ []) (IsRoute rolls members home tried.tries)

way_more : (kept : Bool) (members at left : ℕ) (tries : List Try) → IsWay kept members ((at + 1) % members) left tries
    → IsWay kept members at (suc left) (a_try at Refused ∷ tries)
way_more true members at left tries h =
    let fewer = h.1 in (suc h.0, omega arith, ap (λ (ts : List Try). a_try at Refused ∷ ts) h.2)
way_more false members at left tries h = ap (λ (ts : List Try). a_try at Refused ∷ ts) h

put_settles : (offer : Offer) (found : Found) → IsSettled (fate_of (put_by offer found))
put_settles offer NotAsked = tt
put_settles offer Free = tt
put_settles offer (Held number) = tt

module _ (P : ℕ → Ring → Type 0) (steps : RingSteps) (keep : KeepOpen steps P) where
  -- one try, and those that follow it
  round_step : (a : Arrival) (members at left : ℕ) (found : Found) (rings : List Ring) (rest : Tried) → at < length rings
      → LeavesOpen P (get_or rings at no_ring) (try_by (offered a) found)
      → Round P a members ((at + 1) % members) left (noted_at at (try_by (offered a) found) rings) rest
      → Round P a members at (suc left) rings
      (and_then at (try_by (offered a) found) (noted_at at (try_by (offered a) found) rings) rest)
  round_step a members at left NotAsked rings rest inside opens h = record {
    spread = spread_one P a at Kept _ rings inside (try_tells a NotAsked) opens;
    way = (0, omega arith, refl);
  }
  round_step a members at left Free rings rest inside opens h = record {
    spread = spread_one P a at Kept _ rings inside (try_tells a Free) opens;
    way = (0, omega arith, refl);
  }
  round_step a members at left (Held number) rings rest inside opens h = record {
    spread = spread_then P a (a_try at Refused ∷ []) rest.tries rings _ rest.members
        (spread_one P a at Refused _ rings inside (try_tells a (Held number)) opens) h.spread;
    way = way_more rest.kept members at left rest.tries h.way;
  }

  round : (a : Arrival) (members left at : ℕ) (rings : List Ring) → at < members → length rings ≡ members
      → Round P a members at left rings (try_round steps members left at (offered a) rings)
  round a members zero at rings h count = record { spread = spread_none P a rings; way = refl }
  round a members (suc left) at rings h count =
      let ring = get_or rings at no_ring in
      let after = noted_at at (try_note steps ring (offered a)) rings in
      let next = (at + 1) % members in
      let found = steps.finds ring (offered a) in
      round_step a members at left found rings (try_round steps members left next (offered a) after) (omega arith)
      (λ clock was. keep.tried clock ring (offered a) was)
      (round a members left next after (omega arith) (length-set rings at _ ∙ count))

  put_spread : (a : Arrival) (home : ℕ) (rings : List Ring) → home < length rings
      → Spread P a (put_at steps home (offered a) rings).tries rings (put_at steps home (offered a) rings).members
  put_spread a home rings inside =
      let ring = get_or rings home no_ring in
      let found = steps.finds ring (offered a) in
      spread_one P a home _ (put_note steps ring (offered a)) rings inside (put_tells a found)
      (λ clock was. keep.put clock ring (offered a) was)

  or_put : (a : Arrival) (kept : Bool) (tries : List Try) (after : List Ring) (members home : ℕ) (rings : List Ring)
      → home < length rings
      → Round P a members home members rings (record { tries = tries; kept = kept; members = after })
      → Routed P a true members home rings
      (or_put_at steps home (offered a) (record { tries = tries; kept = kept; members = after }))
  or_put a true tries after members home rings inside h = record { spread = h.spread; route = inl h.way }
  or_put a false tries after members home rings inside h =
      let put = put_at steps home (offered a) after in
      let there : home < length after = omega (arith, h.spread.count) in
      record {
        spread = spread_then P a tries put.tries rings after put.members h.spread (put_spread a home after there);
        route = inr (_, put_settles (offered a) _, ap (λ (ts : List Try). ts ++ put.tries) h.way);
      }

  routed_by : (a : Arrival) (rolls : Bool) (members home : ℕ) (rings : List Ring) → home < members → length rings ≡ members
      → Routed P a rolls members home rings
      (cond rolls (or_put_at steps home (offered a) (try_round steps members members home (offered a) rings))
      (put_at steps home (offered a) rings))
  routed_by a true members home rings h count =
      let tried = try_round steps members members home (offered a) rings in
      or_put a tried.kept tried.tries tried.members members home rings (omega arith)
      (round a members members home rings h count)
  routed_by a false members home rings h count = record {
    spread = put_spread a home rings (omega arith);
    route = (_, put_settles (offered a) _, refl);
  }

  made_by : (a : Arrival) (rolls ended : Bool) (members home : ℕ) (rings : List Ring) (tried : Tried)
      → Routed P a rolls members home rings tried
      → Made P a rolls ended members home rings (cond ended (record { tries = []; kept = false; members = rings }) tried)
  made_by a rolls true members home rings tried h = record { spread = spread_none P a rings; tries = refl }
  made_by a rolls false members home rings tried h = record { spread = h.spread; tries = h.route }

  pub tries_made : (a : Arrival) (rules : Rules) (home : ℕ) (rings : List Ring) → home < rules.members
      → length rings ≡ rules.members
      → Made P a (rolls_over rules) (eqb a.entry.verdict 0) rules.members home rings
      (tries_of rules steps home (offered a) a.entry.verdict rings)
  tries_made a rules home rings h count =
      made_by a (rolls_over rules) (eqb a.entry.verdict 0) rules.members home rings _
      (routed_by a (rolls_over rules) rules.members home rings h count)
