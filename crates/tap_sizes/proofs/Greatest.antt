-- The greatest of the rings that are needed, and the first phase and beginning at which it is.
use Rattle.std.proofs.Common.{◌≡◌, ℕ, ◌<◌, ◌≤◌, Bool, true, false, List, [], ◌∷◌, max, get_or, length}
use Rattle.std.proofs.Common.{inl, inr, refl, sym, ◌∙◌, subst, arith}
use Rattle.std.specs.Prelude.{◌⊎◌, ◌==◌, if◌then◌else◌, nat_lt}
use Rattle.std.proofs.lemmas.Bool.{eqb-false, eqb-true, ltb-true, ltb-false}
use Rattle.ring_sizes.specs.Phases.{IsEarlier, IsFirstFewest, IsFirstMost}
use Rattle.ring_sizes.specs.declared.paces.Arrival.{Arrival}
use Rattle.ring_sizes.specs.declared.tries.Reached.{Reached}
use Rattle.ring_sizes.specs.declared.tries.Tries.{Tries}
use Rattle.tap_sizes.specs.declared.ring_parts.RingParts.{RingParts}
use Rattle.tap_sizes.specs.inside.Passes.{AreFirstMost, Clocks, greatest_ring, is_greater, least_by, most_by}

-- ---- the greatest of several

-- as far as numbers go alone
pub numbers_as : (tries : Tries) (one other : ℕ → ℕ → ℕ) (found : Reached)
    → ((phase from : ℕ) → one phase from ≡ other phase from)
    → IsFirstMost tries one found → IsFirstMost tries other found
numbers_as tries one other found same is = record {
  phase = is.phase;
  from = is.from;
  reached = is.reached ∙ same found.phase found.from;
  best = λ phase from at_phase at_from.
      subst (λ n. n ≤ found.number) (same phase from) (is.best phase from at_phase at_from);
  first = λ phase from at_phase at_from earlier.
      subst (λ n. n < found.number) (same phase from)
      (is.first phase from at_phase at_from earlier);
}

pub fewest_as : (tries : Tries) (one other : ℕ → ℕ → ℕ) (found : Reached)
    → ((phase from : ℕ) → one phase from ≡ other phase from)
    → IsFirstFewest tries one found → IsFirstFewest tries other found
fewest_as tries one other found same is = record {
  phase = is.phase;
  from = is.from;
  reached = is.reached ∙ same found.phase found.from;
  best = λ phase from at_phase at_from.
      subst (λ n. found.number ≤ n) (same phase from) (is.best phase from at_phase at_from);
  first = λ phase from at_phase at_from earlier.
      subst (λ n. found.number < n) (same phase from)
      (is.first phase from at_phase at_from earlier);
}

-- a ring is greater, or it is first at the same number
abbrev IsBefore : Reached → Reached → Type 0
IsBefore ring other =
    (other.number < ring.number)
    ⊎ ((ring.number ≡ other.number) × IsEarlier ring.phase ring.from other)

abbrev IsBeforeOrAt : Reached → Reached → Type 0
IsBeforeOrAt ring other =
    (other.number < ring.number)
    ⊎ ((ring.number ≡ other.number)
    × ((ring.phase < other.phase) ⊎ ((ring.phase ≡ other.phase) × (ring.from ≤ other.from))))

greater_yes : (ring other : Reached) → is_greater ring other ≡ true → IsBeforeOrAt ring other
greater_yes ring other is = by (ring.number == other.number) refl is where
  same_phase : (b : Bool) → (ring.phase == other.phase) ≡ b
      → (if b then nat_lt ring.from other.from else nat_lt ring.phase other.phase) ≡ true
      → (ring.phase < other.phase) ⊎ ((ring.phase ≡ other.phase) × (ring.from ≤ other.from))
  same_phase true e h =
      inr (
        eqb-true ring.phase other.phase e,
        (let less = ltb-true ring.from other.from h in omega (arith, less)),
      )
  same_phase false e h = inl (ltb-true ring.phase other.phase h)

  by : (b : Bool) → (ring.number == other.number) ≡ b
      → (if b then (if ring.phase == other.phase then nat_lt ring.from other.from
      else nat_lt ring.phase other.phase) else nat_lt other.number ring.number) ≡ true
      → IsBeforeOrAt ring other
  by true e h =
      inr (eqb-true ring.number other.number e, same_phase (ring.phase == other.phase) refl h)
  by false e h = inl (ltb-true other.number ring.number h)

greater_no : (ring other : Reached) → is_greater ring other ≡ false → IsBeforeOrAt other ring
greater_no ring other is = by (ring.number == other.number) refl is where
  same_phase : (b : Bool) → (ring.phase == other.phase) ≡ b
      → (if b then nat_lt ring.from other.from else nat_lt ring.phase other.phase) ≡ false
      → (other.phase < ring.phase) ⊎ ((other.phase ≡ ring.phase) × (other.from ≤ ring.from))
  same_phase true e h =
      inr (sym (eqb-true ring.phase other.phase e), ltb-false ring.from other.from h)
  same_phase false e h =
      let other_way = ltb-false ring.phase other.phase h in
      let differ = eqb-false ring.phase other.phase e in
      inl (omega (arith, other_way, differ))

  by : (b : Bool) → (ring.number == other.number) ≡ b
      → (if b then (if ring.phase == other.phase then nat_lt ring.from other.from
      else nat_lt ring.phase other.phase) else nat_lt other.number ring.number) ≡ false
      → IsBeforeOrAt other ring
  by true e h =
      inr (
        sym (eqb-true ring.number other.number e),
        same_phase (ring.phase == other.phase) refl h,
      )
  by false e h =
      let other_way = ltb-false other.number ring.number h in
      let differ = eqb-false ring.number other.number e in
      inl (omega (arith, other_way, differ))

-- what is earlier than a ring is earlier than one that isn't before it
earlier_still : (phase from : ℕ) (ring other : Reached)
    → (ring.phase < other.phase) ⊎ ((ring.phase ≡ other.phase) × (ring.from ≤ other.from))
    → IsEarlier phase from ring → IsEarlier phase from other
earlier_still phase from ring other (inl less) (inl before) = inl (omega (arith, less, before))
earlier_still phase from ring other (inl less) (inr before) =
    let same = before.0 in inl (omega (arith, less, same))
earlier_still phase from ring other (inr at) (inl before) =
    let same = at.0 in inl (omega (arith, same, before))
earlier_still phase from ring other (inr at) (inr before) =
    let same = at.0 in let here = before.0 in let most = at.1 in let less = before.1 in
    inr (omega (arith, same, here), omega (arith, most, less))

-- the first of two
first_of_two : (tries : Tries) (one other : ℕ → ℕ → ℕ) (ring left : Reached)
    → IsFirstMost tries one ring → IsFirstMost tries other left → IsBeforeOrAt ring left
    → IsFirstMost tries (λ phase from. max (one phase from) (other phase from)) ring
first_of_two tries one other ring left is was (inl less) = record {
  phase = is.phase;
  from = is.from;
  reached = let same = is.reached in
      let best = was.best ring.phase ring.from is.phase is.from in omega (arith, same, best, less);
  best = λ phase from at_phase at_from.
      let mine = is.best phase from at_phase at_from in
      let best = was.best phase from at_phase at_from in omega (arith, mine, best, less);
  first = λ phase from at_phase at_from earlier.
      let mine = is.first phase from at_phase at_from earlier in
      let best = was.best phase from at_phase at_from in omega (arith, mine, best, less);
}
first_of_two tries one other ring left is was (inr at) = record {
  phase = is.phase;
  from = is.from;
  reached = let same = is.reached in let even = at.0 in
      let best = was.best ring.phase ring.from is.phase is.from in omega (arith, same, best, even);
  best = λ phase from at_phase at_from.
      let even = at.0 in
      let mine = is.best phase from at_phase at_from in
      let best = was.best phase from at_phase at_from in omega (arith, mine, best, even);
  first = λ phase from at_phase at_from earlier.
      let even = at.0 in
      let mine = is.first phase from at_phase at_from earlier in
      let best = was.first phase from at_phase at_from
      (earlier_still phase from ring left at.1 earlier) in omega (arith, mine, best, even);
}

max_turned : (x y : ℕ) → max x y ≡ max y x
max_turned x y = omega arith

greater_first : (tries : Tries) (one other : ℕ → ℕ → ℕ) (ring found : Reached) (b : Bool)
    → is_greater ring found ≡ b → IsFirstMost tries one found → IsFirstMost tries other ring
    → IsFirstMost tries (λ phase from. max (one phase from) (other phase from))
    (if b then ring else found)
greater_first tries one other ring found true is was here =
    numbers_as tries _ _ ring (λ phase from. max_turned (other phase from) (one phase from))
    (first_of_two tries other one ring found here was (greater_yes ring found is))
greater_first tries one other ring found false is was here =
    first_of_two tries one other found ring was here (greater_no ring found is)

no_more : (x : ℕ) → x ≡ max x 0
no_more x = omega arith

three : (x y z : ℕ) → max (max x y) z ≡ max x (max y z)
three x y z = omega arith

greatest_first : (parts : RingParts) (clocks : Clocks) (tries : Tries) (one : ℕ → ℕ → ℕ) (found : Reached)
    (all : List (List Arrival)) (rings : List Reached)
    → IsFirstMost tries one found → AreFirstMost parts clocks tries all rings
    → IsFirstMost tries (λ phase from. max (one phase from) (most_by parts clocks all phase from))
    (greatest_ring found rings)
greatest_first parts clocks tries one found [] [] is are =
    numbers_as tries one _ found (λ phase from. no_more (one phase from)) is
greatest_first parts clocks tries one found [] (ring ∷ rings) is are = absurd are
greatest_first parts clocks tries one found (arrivals ∷ all) [] is are = absurd are
greatest_first parts clocks tries one found (arrivals ∷ all) (ring ∷ rings) is are =
    let here = least_by parts clocks arrivals in
    let next : Reached = if is_greater ring found then ring else found in
    numbers_as tries _ _ (greatest_ring next rings)
    (λ phase from. three (one phase from) (here phase from) (most_by parts clocks all phase from))
    (greatest_first parts clocks tries (λ phase from. max (one phase from) (here phase from)) next
    all rings
    (greater_first tries one here ring found (is_greater ring found) refl is are.0) are.1)

twice : (x y : ℕ) → max x (max x y) ≡ max x y
twice x y = omega arith

pub group_most : (parts : RingParts) (clocks : Clocks) (tries : Tries) (all : List (List Arrival))
    (rings : List Reached) (first : Reached) → first ≡ get_or rings 0 first → 0 < length all
    → AreFirstMost parts clocks tries all rings
    → IsFirstMost tries (most_by parts clocks all) (greatest_ring first rings)
group_most parts clocks tries [] rings first is some are = absurd (omega (arith, some))
group_most parts clocks tries (arrivals ∷ all) [] first is some are = absurd are
group_most parts clocks tries (arrivals ∷ all) (ring ∷ rings) first is some are =
    subst (λ (r : Reached). IsFirstMost tries (most_by parts clocks (arrivals ∷ all))
    (greatest_ring r (ring ∷ rings))) (sym is)
    (numbers_as tries _ _ (greatest_ring ring (ring ∷ rings))
    (λ phase from. twice (least_by parts clocks arrivals phase from)
    (most_by parts clocks all phase from))
    (greatest_first parts clocks tries (least_by parts clocks arrivals) ring (arrivals ∷ all)
    (ring ∷ rings) are.0 are))
