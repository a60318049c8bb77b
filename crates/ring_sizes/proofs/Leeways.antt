-- How much earlier the ticks may come.
use Rattle.std.proofs.Common.{◌≡◌, ◌↔◌, ℕ, ◌+◌, ◌-◌, ◌*◌, ◌/◌, ◌%◌, ◌<◌, ◌≤◌, ◌⊎◌, inl, inr, List, [], ◌∷◌, max}
use Rattle.std.proofs.Common.{drop, get_or, drop-cons, add-one, length, min, refl, ap, subst, sym, ◌∙◌, arith}
use Rattle.std.proofs.lemmas.Grind.{common_steps}
use Rattle.std.proofs.lemmas.List.{drop_all}
use Rattle.std.specs.Int.{IsGcd}
use Rattle.std.proofs.Math.Nat.{add-mul, add-mul-div_right, div-mul-le_self, le-div_iff_mul-le, mul_assoc, mul_comm, mul-sub}
use Rattle.std.proofs.Math.Nat.{mul-le-mul_right}
use Rattle.std.proofs.lemmas.Nat.{div-add-mod', div-mul-add, mod_below}
use Rattle.std.proofs.lemmas.Nat.Gcd.{mod-eq-zero_of_dvd}
use Rattle.std.proofs.lemmas.Bool.{cases_lt}
use Rattle.ring_sizes.specs.Orders.{PassesNoFrame, PassesNoStep, at_phase}
use Rattle.ring_sizes.specs.Schedules.{IsPace, steps_before, tick_moment, ticks_by}
use Rattle.ring_sizes.specs.declared.paces.Arrival.{Arrival}
use Rattle.ring_sizes.specs.declared.paces.Timing.{Timing}
use Rattle.ring_sizes.proofs.Counts.{next_tick, tick_comes}

-- ---- ticks and frames

-- so many ticks come by a moment with the next one as much earlier as this
pub same_ticks_earlier : (pace : Timing) (phase at : ℕ) → 0 < pace.tov → pace.phase ≤ phase
    → phase * 1000000 ≤ pace.phase * 1000000 + (tick_moment pace (ticks_by pace at + 1) - 1 - at)
    → ticks_by (at_phase pace phase) at ≡ ticks_by pace at
same_ticks_earlier pace phase at some more less =
    let ticks = ticks_by pace at in
    let here = (tick_comes pace at ticks some).0 (omega arith) in
    let few = (tick_comes (at_phase pace phase) at ticks some).1 (omega (arith, here, more)) in
    by_case few (cases_lt ticks (ticks_by (at_phase pace phase) at)) where
      by_case : ticks_by pace at ≤ ticks_by (at_phase pace phase) at
          → (ticks_by pace at < ticks_by (at_phase pace phase) at) ⊎ (ticks_by (at_phase pace phase) at ≤ ticks_by pace at)
          → ticks_by (at_phase pace phase) at ≡ ticks_by pace at
      by_case few (inl most) =
          let ticks = ticks_by pace at in
          let soon = (tick_comes (at_phase pace phase) at (ticks + 1) some).0 (omega (arith, most)) in
          let late : at < tick_moment pace (ticks + 1) = next_tick pace at some in
          absurd (omega (arith, soon, late, less))
      by_case few (inr most) = omega (arith, few, most)

-- no tick passes one of these frames where none passes those that are left
abbrev pub GoesOn : Timing → ℕ → ℕ → ℕ → List Arrival → List Arrival → Type 0
GoesOn pace end leeway since left arrivals = (phase : ℕ) → pace.phase ≤ phase
    → phase * 1000000 ≤ pace.phase * 1000000 + leeway
    → PassesNoFrame pace phase end since left → PassesNoFrame pace phase end 0 arrivals

less_left : (less leeway left : ℕ) → less ≡ min leeway left → (less ≤ leeway) × (less ≤ left)
less_left less leeway left e = (grind (arith, common_steps), grind (arith, common_steps))

pub frame_goes : (pace : Timing) (end since at leeway next less index : ℕ) (arrivals : List Arrival) (default : Arrival)
    → 0 < pace.tov → index < length arrivals → at ≡ max since (get_or arrivals index default).at
    → next ≡ tick_moment pace (ticks_by pace at + 1) → less ≡ min leeway (next - 1 - at)
    → GoesOn pace end leeway since (drop index arrivals) arrivals
    → GoesOn pace end less at (drop (index + 1) arrivals) arrivals
frame_goes pace end since at leeway next less index arrivals default some inside is moment few goes = λ phase more early rest.
    let both = less_left less leeway (next - 1 - at) few in
    let here = same_ticks_earlier pace phase at some more (omega (arith, early, both.1, moment)) in
    let head : drop index arrivals ≡ get_or arrivals index default ∷ drop (index + 1) arrivals =
    rw add-one (drop-cons arrivals index default inside) in
    goes phase more (omega (arith, early, both.0)) (subst (PassesNoFrame pace phase end since) (sym head)
    (subst (λ (at : ℕ). (ticks_by (at_phase pace phase) at ≡ ticks_by pace at)
    × PassesNoFrame pace phase end at (drop (index + 1) arrivals)) is (here, rest)))

pub end_stays : (pace : Timing) (end at leeway next less index : ℕ) (arrivals : List Arrival)
    → 0 < pace.tov → length arrivals ≤ index
    → next ≡ tick_moment pace (ticks_by pace end + 1) → less ≡ min leeway (next - 1 - end)
    → GoesOn pace end leeway at (drop index arrivals) arrivals
    → (phase : ℕ) → pace.phase ≤ phase → phase * 1000000 ≤ pace.phase * 1000000 + less
    → PassesNoFrame pace phase end 0 arrivals
end_stays pace end at leeway next less index arrivals some behind moment few goes phase more early =
    let both = less_left less leeway (next - 1 - end) few in
    goes phase more (omega (arith, early, both.0))
    (subst (PassesNoFrame pace phase end at) (sym (drop_all index arrivals behind))
    (same_ticks_earlier pace phase end some more (omega (arith, early, both.1, moment))))

pub no_frame_at_once : (pace : Timing) (end since : ℕ) (arrivals : List Arrival)
    → PassesNoFrame pace pace.phase end since arrivals
no_frame_at_once pace end since [] = refl
no_frame_at_once pace end since (arrival ∷ arrivals) = (refl, no_frame_at_once pace end (max since arrival.at) arrivals)

-- ---- ticks and steps

same_count : (x y : ℕ) → ((j : ℕ) → j + 1 ≤ x → j + 1 ≤ y) → ((j : ℕ) → j + 1 ≤ y → j + 1 ≤ x) → x ≡ y
same_count x y h g = by_case (cases_lt x y) (cases_lt y x) where
  by_case : (x < y) ⊎ (y ≤ x) → (y < x) ⊎ (x ≤ y) → x ≡ y
  by_case (inl less) k = let more = g x (omega (arith, less)) in absurd (omega (arith, more))
  by_case (inr most) (inl less) = let more = h y (omega (arith, less)) in absurd (omega (arith, more))
  by_case (inr most) (inr few) = omega (arith, most, few)

-- the step after j steps comes before tick n
mid : (j m n a u place : ℕ) → 0 < u → (j * (m * u) < n * (a * u) - place) ↔ (place / u + j * m < n * a)
mid j m n a u place some =
    (λ h. there h (cases_lt (place / u + j * m) (n * a)), λ h. back h (cases_lt (j * (m * u)) (n * (a * u) - place))) where
      there : j * (m * u) < n * (a * u) - place → (place / u + j * m < n * a) ⊎ (n * a ≤ place / u + j * m)
          → place / u + j * m < n * a
      there h (inl less) = less
      there h (inr most) =
          let d = add-mul-div_right place (j * m) some in
          let k = (le-div_iff_mul-le {k = u} {x = n * a} {y = place + j * m * u} some).0 (omega (arith, most, d)) in
          absurd (omega (arith, h, k, mul_assoc j m u, mul_assoc n a u))

      back : place / u + j * m < n * a → (j * (m * u) < n * (a * u) - place) ⊎ (n * (a * u) - place ≤ j * (m * u))
          → j * (m * u) < n * (a * u) - place
      back h (inl less) = less
      back h (inr most) =
          let d = add-mul-div_right place (j * m) some in
          let k = (le-div_iff_mul-le {k = u} {x = n * a} {y = place + j * m * u} some).1
          (omega (arith, most, mul_assoc j m u, mul_assoc n a u)) in
          absurd (omega (arith, h, k, d))

-- how far a timer's start and a reader's lie apart, in parts of a nanosecond
abbrev pub place_of : Timing → ℕ → ℕ
place_of pace phase = (phase * 1000000 + pace.start) * pace.parts

-- what comes before a tick, in parts of a nanosecond
before_tick : (pace : Timing) (phase number : ℕ) → (tick_moment (at_phase pace phase) number - pace.start) * pace.parts
    ≡ number * (pace.tov * 1000000 * pace.parts) - place_of pace phase
before_tick pace phase number =
    let ticks = number * (pace.tov * 1000000) in
    let shift = phase * 1000000 + pace.start in
    let joined : tick_moment (at_phase pace phase) number - pace.start ≡ ticks - shift = omega arith in
    ap (λ (n : ℕ). n * pace.parts) joined
    ∙ mul_comm (ticks - shift) pace.parts
    ∙ mul-sub pace.parts ticks shift
    ∙ ap (λ (n : ℕ). n - pace.parts * shift) (mul_comm pace.parts ticks ∙ mul_assoc number (pace.tov * 1000000) pace.parts)
    ∙ ap (λ (n : ℕ). number * (pace.tov * 1000000 * pace.parts) - n) (mul_comm pace.parts shift)

step_before : (pace : Timing) (at steps : ℕ) → 0 < pace.span
    → (steps + 1 ≤ steps_before pace at) ↔ (steps * pace.span < (at - pace.start) * pace.parts)
step_before pace at steps some =
    let iff = le-div_iff_mul-le {k = pace.span} {x = steps + 1} {y = (at - pace.start) * pace.parts + (pace.span - 1)} some in
    (λ few. let h = iff.0 few in omega (arith, h, some), λ soon. iff.1 (omega (arith, soon)))

whole : (n u : ℕ) → n % u ≡ 0 → n / u * u ≡ n
whole n u none = let all = div-add-mod' n u in omega (arith, none, all)

-- whether a step comes before a tick, by whole units
comes : (pace : Timing) (phase number steps unit : ℕ) → 0 < pace.span → 0 < unit
    → IsGcd (pace.tov * 1000000 * pace.parts) pace.span unit
    → (steps + 1 ≤ steps_before pace (tick_moment (at_phase pace phase) number))
    ↔ (place_of pace phase / unit + steps * (pace.span / unit) < number * (pace.tov * 1000000 * pace.parts / unit))
comes pace phase number steps unit some much gcd =
    let before = step_before pace (tick_moment (at_phase pace phase) number) steps some in
    let by = mid steps (pace.span / unit) number (pace.tov * 1000000 * pace.parts / unit) unit (place_of pace phase) much in
    let span = ap (λ (n : ℕ). steps * n) (whole pace.span unit (mod-eq-zero_of_dvd unit gcd.1)) in
    let ticks = ap (λ (n : ℕ). number * n - place_of pace phase) (whole (pace.tov * 1000000 * pace.parts) unit
    (mod-eq-zero_of_dvd unit gcd.0)) in
    let here = before_tick pace phase number in (
      λ few. let h = before.0 few in by.0 (omega (arith, h, span, ticks, here)),
      λ few. let h = by.1 few in before.1 (omega (arith, h, span, ticks, here)),
    )

-- the timer's start moves by less than what is left of a unit
same_unit : (pace : Timing) (phase unit leeway : ℕ) → 0 < unit → pace.phase ≤ phase
    → phase * 1000000 ≤ pace.phase * 1000000 + leeway
    → leeway ≡ (unit - 1 - place_of pace pace.phase % unit) / pace.parts
    → place_of pace phase / unit ≡ place_of pace pace.phase / unit
same_unit pace phase unit leeway some more less is =
    let place = place_of pace pace.phase in
    let moved = phase * 1000000 - pace.phase * 1000000 in
    let shift : phase * 1000000 + pace.start ≡ pace.phase * 1000000 + pace.start + moved = omega (arith, more) in
    let left = div-mul-le_self (unit - 1 - place % unit) pace.parts in
    let most = mul-le-mul_right {m = moved} {n = leeway} pace.parts (omega (arith, less)) in
    let leeways = ap (λ (n : ℕ). n * pace.parts) is in
    let split = div-add-mod' place unit in
    let small = mod_below place unit some in
    let there : place_of pace phase ≡ place + moved * pace.parts =
    ap (λ (n : ℕ). n * pace.parts) shift ∙ add-mul (pace.phase * 1000000 + pace.start) moved pace.parts in
    let whole : place_of pace phase ≡ place / unit * unit + (place % unit + moved * pace.parts) = omega (arith, there, split) in
    ap (λ (n : ℕ). n / unit) whole
    ∙ div-mul-add (place / unit) unit (place % unit + moved * pace.parts) (omega (arith, left, most, leeways, small))

-- no tick passes a step of the reader
pub no_step_passed : (pace : Timing) (phase unit leeway : ℕ) → IsPace pace → 0 < unit
    → IsGcd (pace.tov * 1000000 * pace.parts) pace.span unit
    → pace.phase ≤ phase → phase * 1000000 ≤ pace.phase * 1000000 + leeway
    → leeway ≡ (unit - 1 - place_of pace pace.phase % unit) / pace.parts
    → PassesNoStep pace phase
no_step_passed pace phase unit leeway sound some gcd more less is = λ number.
    let same = same_unit pace phase unit leeway some more less is in
    same_count _ _
    (λ steps few.
    let h = (comes pace phase number steps unit sound.span some gcd).0 few in
    (comes pace pace.phase number steps unit sound.span some gcd).1 (omega (arith, h, same)))
    (λ steps few.
    let h = (comes pace pace.phase number steps unit sound.span some gcd).0 few in
    (comes pace phase number steps unit sound.span some gcd).1 (omega (arith, h, same)))
