-- A reader wakes at the first moment in no stall.
use Rattle.std.proofs.Common.{◌≡◌, ℕ, zero, suc, ◌+◌, ◌-◌, ◌<◌, ◌≤◌, Bool, true, false, cond, List, [], ◌∷◌, length}
use Rattle.std.proofs.Common.{refl, ap, ◌∙◌, arith}
use Rattle.std.specs.Prelude.{nat_le, nat_lt, ◌&&◌, ◌||◌}
use Rattle.std.proofs.lemmas.Grind.{common_steps}
use Rattle.poll_sizes.specs.Wakes.{after_stall, after_stalls, wake_of}
use Rattle.ring_sizes.specs.Schedules.{is_stalled}
use Rattle.ring_sizes.specs.declared.paces.StallTime.{StallTime}

abbrev holds : StallTime → ℕ → Bool
holds stall at = nat_le stall.from at && nat_lt at (stall.from + stall.length)

pub rounds_stay : (rounds : ℕ) (stalls : List StallTime) (at : ℕ) → after_stall stalls at ≡ at
    → after_stalls rounds stalls at ≡ at
rounds_stay zero stalls at e = refl
rounds_stay (suc rounds) stalls at e = ap (after_stalls rounds stalls) e ∙ rounds_stay rounds stalls at e

-- ---- one stall

inside : (from end at : ℕ) → (nat_le from at && nat_lt at end) ≡ true → (from ≤ at) × (at < end)
inside from end at e = (grind (arith, common_steps, e), grind (arith, common_steps, e))

held : (from end at : ℕ) → from ≤ at → at < end → (nat_le from at && nat_lt at end) ≡ true
held from end at early late = grind (arith, common_steps, early, late)

either : (one other : Bool) → other ≡ true → (one || other) ≡ true
either true other e = refl
either false other e = e

first_holds : (one other : Bool) → one ≡ true → (one || other) ≡ true
first_holds true other e = refl
first_holds false other e = absurd (grind (arith, common_steps, e))

later_by : (stall : StallTime) (at rest : ℕ) (is : Bool) → holds stall at ≡ is → at ≤ rest
    → at ≤ cond is (stall.from + stall.length) rest
later_by stall at rest true e h = let in_it = inside stall.from (stall.from + stall.length) at e in omega (arith, in_it.1)
later_by stall at rest false e h = h

later : (stalls : List StallTime) (at : ℕ) → at ≤ after_stall stalls at
later [] at = omega arith
later (stall ∷ stalls) at = later_by stall at (after_stall stalls at) (holds stall at) refl (later stalls at)

-- ---- the moments between are in stalls

between_by : (stall : StallTime) (stalls : List StallTime) (at moment rest : ℕ) (is : Bool) → holds stall at ≡ is
    → at ≤ moment → moment < cond is (stall.from + stall.length) rest
    → (moment < rest → is_stalled stalls moment ≡ true) → (holds stall moment || is_stalled stalls moment) ≡ true
between_by stall stalls at moment rest true e early late others =
    let in_it = inside stall.from (stall.from + stall.length) at e in
    first_holds (holds stall moment) (is_stalled stalls moment)
    (held stall.from (stall.from + stall.length) moment (omega (arith, in_it.0, early)) late)
between_by stall stalls at moment rest false e early late others =
    either (holds stall moment) (is_stalled stalls moment) (others late)

between : (stalls : List StallTime) (at moment : ℕ) → at ≤ moment → moment < after_stall stalls at
    → is_stalled stalls moment ≡ true
between [] at moment early late = absurd (omega (arith, early, late))
between (stall ∷ stalls) at moment early late =
    between_by stall stalls at moment (after_stall stalls at) (holds stall at) refl early late
    (between stalls at moment early)

between_rounds : (stalls : List StallTime) (at moment : ℕ) (soon : Bool) → nat_lt moment (after_stall stalls at) ≡ soon
    → at ≤ moment → (after_stall stalls at ≤ moment → is_stalled stalls moment ≡ true) → is_stalled stalls moment ≡ true
between_rounds stalls at moment true e early rest = between stalls at moment early (grind (arith, common_steps, e))
between_rounds stalls at moment false e early rest = rest (grind (arith, common_steps, e))

all_between : (rounds : ℕ) (stalls : List StallTime) (at moment : ℕ) → at ≤ moment → moment < after_stalls rounds stalls at
    → is_stalled stalls moment ≡ true
all_between zero stalls at moment early late = absurd (omega (arith, early, late))
all_between (suc rounds) stalls at moment early late =
    between_rounds stalls at moment (nat_lt moment (after_stall stalls at)) refl early
    (λ h. all_between rounds stalls (after_stall stalls at) moment h late)

all_later : (rounds : ℕ) (stalls : List StallTime) (at : ℕ) → at ≤ after_stalls rounds stalls at
all_later zero stalls at = omega arith
all_later (suc rounds) stalls at =
    let here = later stalls at in
    let rest = all_later rounds stalls (after_stall stalls at) in
    omega (arith, here, rest)

-- ---- no stall is left after as many rounds as there are stalls

-- how many stalls end after a moment
abbrev left : List StallTime → ℕ → ℕ
left [] at = 0
left (stall ∷ stalls) at = cond (nat_lt at (stall.from + stall.length)) 1 0 + left stalls at

one_fewer : (at to end : ℕ) (one other : Bool) → nat_lt at end ≡ one → nat_lt to end ≡ other → at ≤ to
    → cond other 1 0 ≤ cond one 1 0
one_fewer at to end true true e f h = omega arith
one_fewer at to end true false e f h = omega arith
one_fewer at to end false true e f h = absurd (grind (arith, common_steps, e, f, h))
one_fewer at to end false false e f h = omega arith

fewer : (stalls : List StallTime) (at to : ℕ) → at ≤ to → left stalls to ≤ left stalls at
fewer [] at to h = omega arith
fewer (stall ∷ stalls) at to h =
    let here = one_fewer at to (stall.from + stall.length) (nat_lt at (stall.from + stall.length))
    (nat_lt to (stall.from + stall.length)) refl refl h in
    omega (arith, here, fewer stalls at to h)

at_end : (at end : ℕ) (one other : Bool) → nat_lt at end ≡ one → nat_lt end end ≡ other → at < end
    → cond other 1 0 + 1 ≤ cond one 1 0
at_end at end true true e f h = absurd (grind (arith, common_steps, f))
at_end at end true false e f h = omega arith
at_end at end false other e f h = absurd (grind (arith, common_steps, e, h))

not_first : (one other : Bool) → one ≡ false → (one || other) ≡ true → other ≡ true
not_first true other e h = absurd (grind (arith, common_steps, e))
not_first false other e h = h

leaves_by : (stall : StallTime) (stalls : List StallTime) (at rest : ℕ) (is : Bool) → holds stall at ≡ is → at ≤ rest
    → (holds stall at || is_stalled stalls at) ≡ true
    → (is_stalled stalls at ≡ true → left stalls rest + 1 ≤ left stalls at)
    → left (stall ∷ stalls) (cond is (stall.from + stall.length) rest) + 1 ≤ left (stall ∷ stalls) at
leaves_by stall stalls at rest true e h stalled others =
    let end : ℕ = stall.from + stall.length in
    let in_it = inside stall.from end at e in
    let here = at_end at end (nat_lt at end) (nat_lt end end) refl refl in_it.1 in
    omega (arith, here, fewer stalls at end (omega (arith, in_it.1)))
leaves_by stall stalls at rest false e h stalled others =
    let end : ℕ = stall.from + stall.length in
    let here = one_fewer at rest end (nat_lt at end) (nat_lt rest end) refl refl h in
    omega (arith, here, others (not_first (holds stall at) (is_stalled stalls at) e stalled))

leaves : (stalls : List StallTime) (at : ℕ) → is_stalled stalls at ≡ true
    → left stalls (after_stall stalls at) + 1 ≤ left stalls at
leaves [] at e = absurd (grind (arith, common_steps, e))
leaves (stall ∷ stalls) at e =
    leaves_by stall stalls at (after_stall stalls at) (holds stall at) refl (later stalls at) e (leaves stalls at)

stays_by : (one other : Bool) (end rest at : ℕ) → (one || other) ≡ false → (other ≡ false → rest ≡ at)
    → cond one end rest ≡ at
stays_by true other end rest at e others = absurd (grind (arith, common_steps, e))
stays_by false other end rest at e others = others e

stays : (stalls : List StallTime) (at : ℕ) → is_stalled stalls at ≡ false → after_stall stalls at ≡ at
stays [] at e = refl
stays (stall ∷ stalls) at e =
    stays_by (holds stall at) (is_stalled stalls at) (stall.from + stall.length) (after_stall stalls at) at e (stays stalls at)

few_by : (is : Bool) (others count : ℕ) → others ≤ count → cond is 1 0 + others ≤ count + 1
few_by true others count h = omega (arith, h)
few_by false others count h = omega (arith, h)

few : (stalls : List StallTime) (at : ℕ) → left stalls at ≤ length stalls
few [] at = omega arith
few (stall ∷ stalls) at =
    let here = few_by (nat_lt at (stall.from + stall.length)) (left stalls at) (length stalls) (few stalls at) in
    omega (arith, here)

free_by : (rounds : ℕ) (stalls : List StallTime) (at : ℕ) (is : Bool) → is_stalled stalls at ≡ is
    → left stalls at ≤ suc rounds
    → (left stalls (after_stall stalls at) ≤ rounds
    → is_stalled stalls (after_stalls rounds stalls (after_stall stalls at)) ≡ false)
    → is_stalled stalls (after_stalls rounds stalls (after_stall stalls at)) ≡ false
free_by rounds stalls at true e h rest = let more = leaves stalls at e in rest (omega (arith, h, more))
free_by rounds stalls at false e h rest =
    ap (is_stalled stalls) (rounds_stay (suc rounds) stalls at (stays stalls at e)) ∙ e

none_by : (stalls : List StallTime) (at : ℕ) (is : Bool) → is_stalled stalls at ≡ is → left stalls at ≤ 0 → is ≡ false
none_by stalls at true e h = let more = leaves stalls at e in absurd (omega (arith, h, more))
none_by stalls at false e h = refl

free : (rounds : ℕ) (stalls : List StallTime) (at : ℕ) → left stalls at ≤ rounds
    → is_stalled stalls (after_stalls rounds stalls at) ≡ false
free zero stalls at h = none_by stalls at (is_stalled stalls at) refl h
free (suc rounds) stalls at h =
    free_by rounds stalls at (is_stalled stalls at) refl h (free rounds stalls (after_stall stalls at))

pub first_moment : (stalls : List StallTime) (at : ℕ) → (at ≤ wake_of stalls at)
    × (is_stalled stalls (wake_of stalls at) ≡ false)
    × ((moment : ℕ) → at ≤ moment → moment < wake_of stalls at → is_stalled stalls moment ≡ true)
first_moment stalls at = (
  all_later (length stalls) stalls at,
  free (length stalls) stalls at (few stalls at),
  λ moment early late. all_between (length stalls) stalls at moment early late,
)

-- ---- along the rounds

pub next_round : (left : ℕ) (stalls : List StallTime) (at next wake : ℕ) → 0 < left → next ≡ after_stall stalls at
    → after_stalls left stalls at ≡ wake → after_stalls (left - 1) stalls next ≡ wake
next_round zero stalls at next wake some is e = absurd (omega (arith, some))
next_round (suc left) stalls at next wake some is e =
    let one : suc left - 1 ≡ left = omega arith in
    ap (λ (n : ℕ). after_stalls n stalls next) one ∙ ap (after_stalls left stalls) is ∙ e

pub no_round : (left : ℕ) (stalls : List StallTime) (at wake : ℕ) → left ≤ 0 → after_stalls left stalls at ≡ wake → at ≡ wake
no_round zero stalls at wake none e = e
no_round (suc left) stalls at wake none e = absurd (omega (arith, none))
