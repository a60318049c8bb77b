-- How many ticks and steps come by a moment.
use Rattle.std.proofs.Common.{◌≡◌, ◌↔◌, ℕ, ◌+◌, ◌-◌, ◌*◌, ◌/◌, ◌<◌, ◌≤◌, ◌^◌, ◌⊎◌, inl, inr, refl, ap, arith}
use Rattle.std.proofs.Math.Nat.{div-le_self, div-mul-le_self, le-div_iff_mul-le, mul-le-mul_left, mul-le-mul_right}
use Rattle.std.proofs.lemmas.Nat.{div_below, le-div}
use Rattle.std.proofs.lemmas.Bool.{cases_lt}
use Rattle.ring_sizes.specs.Schedules.{IsPace, step_moment, steps_before, tick_moment, ticks_by}
use Rattle.ring_sizes.specs.declared.paces.Timing.{Timing}

-- ---- ticks

pub tick_comes : (pace : Timing) (at number : ℕ) → 0 < pace.tov → (number ≤ ticks_by pace at) ↔ (tick_moment pace number ≤ at)
tick_comes pace at number some =
    let iff = le-div_iff_mul-le {k = pace.tov * 1000000} {x = number} {y = at + pace.phase * 1000000} (omega (arith, some)) in (
      λ few. let h = iff.0 few in omega (arith, h),
      λ early. iff.1 (omega (arith, early)),
    )

pub ticks_rise : (pace : Timing) (before at : ℕ) → 0 < pace.tov → before ≤ at → ticks_by pace before ≤ ticks_by pace at
ticks_rise pace before at some later =
    let here = (tick_comes pace before (ticks_by pace before) some).0 (omega arith) in
    (tick_comes pace at (ticks_by pace before) some).1 (omega (arith, here, later))

-- the next tick comes later
pub next_tick : (pace : Timing) (at : ℕ) → 0 < pace.tov → at < tick_moment pace (ticks_by pace at + 1)
next_tick pace at some = by_case (cases_lt at (tick_moment pace (ticks_by pace at + 1))) where
  by_case : (at < tick_moment pace (ticks_by pace at + 1)) ⊎ (tick_moment pace (ticks_by pace at + 1) ≤ at)
      → at < tick_moment pace (ticks_by pace at + 1)
  by_case (inl h) = h
  by_case (inr h) = let few = (tick_comes pace at (ticks_by pace at + 1) some).1 h in absurd (omega (arith, few))

pub moments_rise : (pace : Timing) (ticks : ℕ) → tick_moment pace (ticks + 1) ≤ tick_moment pace (ticks + 1 + 1)
moments_rise pace ticks =
    let more = mul-le-mul_right {m = ticks + 1} {n = ticks + 1 + 1} (pace.tov * 1000000) (omega arith) in omega (arith, more)

-- ---- steps

-- the moment of the step after so many
abbrev moment_after : Timing → ℕ → ℕ
moment_after pace steps = pace.start + steps * pace.span / pace.parts

step_is : (pace : Timing) (number steps : ℕ) → number ≡ steps + 1 → step_moment pace number ≡ moment_after pace steps
step_is pace number steps e =
    let before : number - 1 ≡ steps = omega (arith, e) in ap (moment_after pace) before

soon_after : (pace : Timing) (at steps : ℕ) → IsPace pace → steps + 1 ≤ steps_before pace at → moment_after pace steps < at
soon_after pace at steps sound few =
    let most = (le-div_iff_mul-le {k = pace.span} {x = steps + 1} {y = (at - pace.start) * pace.parts + (pace.span - 1)}
    sound.span).0 few in
    let below = div_below (steps * pace.span) pace.parts (at - pace.start) sound.parts (omega (arith, most, sound.span)) in
    omega (arith, below)

few_before : (pace : Timing) (at steps : ℕ) → IsPace pace → moment_after pace steps < at → steps + 1 ≤ steps_before pace at
few_before pace at steps sound soon =
    (le-div_iff_mul-le {k = pace.span} {x = steps + 1} {y = (at - pace.start) * pace.parts + (pace.span - 1)} sound.span).1
    (by_case (cases_lt (steps * pace.span) ((at - pace.start) * pace.parts))) where
      by_case : (steps * pace.span < (at - pace.start) * pace.parts) ⊎ ((at - pace.start) * pace.parts ≤ steps * pace.span)
          → (steps + 1) * pace.span ≤ (at - pace.start) * pace.parts + (pace.span - 1)
      by_case (inl h) = omega (arith, h)
      by_case (inr h) =
          let late = le-div (at - pace.start) (steps * pace.span) pace.parts sound.parts h in absurd (omega
          (arith, late, soon))

step_soon : (pace : Timing) (at number : ℕ) → IsPace pace → 1 ≤ number → number ≤ steps_before pace at
    → step_moment pace number < at
step_soon pace at number sound one few =
    let e : number ≡ number - 1 + 1 = omega (arith, one) in
    let soon = soon_after pace at (number - 1) sound (omega (arith, one, few)) in
    omega (arith, soon, step_is pace number (number - 1) e)

step_few : (pace : Timing) (at number : ℕ) → IsPace pace → 1 ≤ number → step_moment pace number < at
    → number ≤ steps_before pace at
step_few pace at number sound one soon =
    let e : number ≡ number - 1 + 1 = omega (arith, one) in
    let few = few_before pace at (number - 1) sound (omega (arith, soon, step_is pace number (number - 1) e)) in
    omega (arith, few, e)

pub step_comes : (pace : Timing) (at number : ℕ) → IsPace pace → 1 ≤ number
    → (number ≤ steps_before pace at) ↔ (step_moment pace number < at)
step_comes pace at number sound one = (step_soon pace at number sound one, step_few pace at number sound one)

pub steps_rise : (pace : Timing) (before at : ℕ) → IsPace pace → before ≤ at → steps_before pace before ≤ steps_before pace at
steps_rise pace before at sound later = by_case (cases_lt 0 (steps_before pace before)) where
  by_case : (0 < steps_before pace before) ⊎ (steps_before pace before ≤ 0) → steps_before pace before ≤ steps_before pace at
  by_case (inl some) =
      let here = step_soon pace before (steps_before pace before) sound some (omega arith) in
      step_few pace at (steps_before pace before) sound some (omega (arith, here, later))
  by_case (inr none) = omega (arith, none)

-- ---- nothing comes before the next tick and the next step

pub same_ticks : (pace : Timing) (before at : ℕ) → 0 < pace.tov → before ≤ at → at < tick_moment pace (ticks_by pace before + 1)
    → ticks_by pace at ≡ ticks_by pace before
same_ticks pace before at some later early = by_case (cases_lt (ticks_by pace before) (ticks_by pace at)) where
  by_case : (ticks_by pace before < ticks_by pace at) ⊎ (ticks_by pace at ≤ ticks_by pace before)
      → ticks_by pace at ≡ ticks_by pace before
  by_case (inl more) =
      let here = (tick_comes pace at (ticks_by pace before + 1) some).0 (omega (arith, more)) in
      absurd (omega (arith, here, early))
  by_case (inr few) = omega (arith, few, ticks_rise pace before at some later)

pub same_steps : (pace : Timing) (before at : ℕ) → IsPace pace → before ≤ at
    → at ≤ step_moment pace (steps_before pace before + 1)
    → steps_before pace at ≡ steps_before pace before
same_steps pace before at sound later early = by_case (cases_lt (steps_before pace before) (steps_before pace at)) where
  by_case : (steps_before pace before < steps_before pace at) ⊎ (steps_before pace at ≤ steps_before pace before)
      → steps_before pace at ≡ steps_before pace before
  by_case (inl more) =
      let here = step_soon pace at (steps_before pace before + 1) sound (omega arith) (omega (arith, more)) in
      absurd (omega (arith, here, early))
  by_case (inr few) = omega (arith, few, steps_rise pace before at sound later)

-- ---- numbers are small

small_quotient : (n parts span : ℕ) → 0 < span → parts ≤ 8 * span → (n * parts + (span - 1)) / span < 8 * n + 1
small_quotient n parts span some quick =
    let most : n * parts ≤ n * (8 * span) = mul-le-mul_left n quick in
    div_below (n * parts + (span - 1)) span (8 * n + 1) some (omega (arith, most, some))

pub steps_fit : (pace : Timing) (at : ℕ) → IsPace pace → at ≤ 2 ^ 53 → steps_before pace at < 2 ^ 61
steps_fit pace at sound early =
    let small = small_quotient (at - pace.start) pace.parts pace.span sound.span sound.quick in
    omega (arith, early, small)

moment_below : (n steps parts span : ℕ) → 0 < span → 0 < parts → steps * span ≤ n * parts + (span - 1)
    → steps * span / parts < n + span
moment_below n steps parts span some others most =
    let more : span * 1 ≤ span * parts = mul-le-mul_left span others in
    div_below (steps * span) parts (n + span) others (omega (arith, most, more, some))

pub step_fits : (pace : Timing) (at : ℕ) → IsPace pace → at ≤ 2 ^ 53 → step_moment pace (steps_before pace at + 1) < 2 ^ 64
step_fits pace at sound early =
    let steps = steps_before pace at in
    let most = (le-div_iff_mul-le {k = pace.span} {x = steps} {y = (at - pace.start) * pace.parts + (pace.span - 1)}
    sound.span).0 (omega arith) in
    let below = moment_below (at - pace.start) steps pace.parts pace.span sound.span sound.parts most in
    omega (arith, below, early, sound.brief, sound.late, step_is pace (steps + 1) steps refl)

pub tick_small : (pace : Timing) (at : ℕ) → at ≤ 2 ^ 53 → pace.phase < 2 ^ 32 → ticks_by pace at * pace.tov < 2 ^ 54
tick_small pace at early phase =
    let here = div-mul-le_self (at + pace.phase * 1000000) (pace.tov * 1000000) in omega (arith, here, early, phase)

pub ticks_few : (pace : Timing) (at : ℕ) → IsPace pace → at ≤ 2 ^ 53 → ticks_by pace at < 2 ^ 54
ticks_few pace at sound early =
    let few = div-le_self (at + pace.phase * 1000000) (pace.tov * 1000000) in
    omega (arith, few, early, sound.phase, sound.short)

-- ---- steps up to a moment

pub step_rises : (pace : Timing) (before number : ℕ) → 0 < pace.parts → before ≤ number
    → step_moment pace before ≤ step_moment pace number
step_rises pace before number some later =
    let more = mul-le-mul_right {m = before - 1} {n = number - 1} pace.span (omega (arith, later)) in
    let below = div-mul-le_self ((before - 1) * pace.span) pace.parts in
    let rises = le-div ((before - 1) * pace.span / pace.parts) ((number - 1) * pace.span) pace.parts some
    (omega (arith, below, more)) in
    omega (arith, rises)
