-- The ticks and steps of a text's reader are those of ring_sizes.
use Rattle.std.proofs.Common.{◌≡◌, ◌↔◌, ℕ, ◌+◌, ◌-◌, ◌*◌, ◌/◌, ◌<◌, ◌≤◌, ◌⊎◌, inl, inr, Bool, List, []}
use Rattle.std.proofs.Common.{◌∷◌, refl, sym, ap, ◌∙◌, arith}
use Rattle.std.specs.Prelude.{nat_le, nat_lt, ◌&&◌, ◌||◌}
use Rattle.std.proofs.lemmas.Bool.{cases_lt}
use native.Mathlib.Nat.{mul_assoc}
use Rattle.reader_pace.specs.Timelines.{block_step, block_steps, pause_step, pause_steps, steps_of, tick_at}
use Rattle.reader_pace.specs.Timelines as lines
use Rattle.reader_pace.specs.declared.paces.Stall as text_stalls
use Rattle.ring_sizes.specs.Schedules.{IsPace, is_stalled, step_moment, steps_before, ticks_by}
use Rattle.ring_sizes.specs.declared.paces.Timing.{Timing}
use Rattle.ring_sizes.proofs.Counts.{step_comes, tick_comes}
use Rattle.pace_laws.specs.Paces.{stalls_of}

pub same_moment : (tov phase number : ℕ) → (number * tov - phase) * 1000000 ≡ number * (tov * 1000000) - phase * 1000000
same_moment tov phase number = omega (arith, mul_assoc number tov 1000000)

stalled_by : (from length moment : ℕ) (one other : Bool) → one ≡ other
    → (nat_le (from * 1000000) moment && nat_lt moment ((from + length) * 1000000)) || one
    ≡ nat_le (from * 1000000) moment && nat_lt moment (from * 1000000 + length * 1000000) || other
stalled_by from length moment one other e =
    let end : (from + length) * 1000000 ≡ from * 1000000 + length * 1000000 = omega arith in
    ap (λ (one : Bool). (nat_le (from * 1000000) moment && nat_lt moment ((from + length) * 1000000)) || one) e
    ∙ ap (λ (end : ℕ). (nat_le (from * 1000000) moment && nat_lt moment end) || other) end

pub same_stalls : (stalls : List text_stalls.Stall) (moment : ℕ)
    → lines.is_stalled stalls moment ≡ is_stalled (stalls_of stalls) moment
same_stalls [] moment = refl
same_stalls (stall ∷ stalls) moment =
    stalled_by stall.from stall.length moment (lines.is_stalled stalls moment) (is_stalled (stalls_of stalls) moment)
    (same_stalls stalls moment)

-- two numbers of which the same are less
same_number : (one other : ℕ) → ((n : ℕ) → n < one → n < other) → ((n : ℕ) → n < other → n < one) → one ≡ other
same_number one other there back = by_case (cases_lt one other) (cases_lt other one) where
  by_case : (one < other) ⊎ (other ≤ one) → (other < one) ⊎ (one ≤ other) → one ≡ other
  by_case (inl h) k = let same = back one h in absurd (omega (arith, same))
  by_case (inr h) (inl k) = let same = there other k in absurd (omega (arith, same))
  by_case (inr h) (inr k) = omega (arith, h, k)

-- as many steps come by the end, whose moments are those of a pace
pub same_steps : (pace : Timing) (moment_of : ℕ → ℕ) (end count : ℕ) → IsPace pace
    → ((step : ℕ) → moment_of step ≡ step_moment pace (step + 1))
    → ((step : ℕ) → (moment_of step ≤ end) ↔ (step < count)) → count ≡ steps_before pace (end + 1)
same_steps pace moment_of end count sound same counted =
    same_number count (steps_before pace (end + 1))
    (λ step few.
    let comes = (counted step).1 few in
    let here = (step_comes pace (end + 1) (step + 1) sound (omega arith)).1 (omega (arith, comes, same step)) in
    omega (arith, here))
    (λ step few.
    let comes = (step_comes pace (end + 1) (step + 1) sound (omega arith)).0 (omega (arith, few)) in
    (counted step).0 (omega (arith, comes, same step)))

pub pause_moment : (period from step : ℕ)
    → pause_step period from step ≡ from * 1000000 + (step + 1 - 1) * (period * 1000000) / 1
pause_moment period from step =
    let spans : step + 1 - 1 ≡ step = omega arith in
    let whole : step * (period * 1000000) / 1 ≡ step * (period * 1000000) = omega arith in
    let each : step * period * 1000000 ≡ step * (period * 1000000) = mul_assoc step period 1000000 in
    let sum : pause_step period from step ≡ from * 1000000 + step * (period * 1000000) = omega (arith, each) in
    sum ∙ ap (λ (n : ℕ). from * 1000000 + n) (sym whole)
    ∙ ap (λ (n : ℕ). from * 1000000 + n * (period * 1000000) / 1) (sym spans)

pub block_moment : (count from step : ℕ)
    → block_step count from step ≡ from * 1000000 + (step + 1 - 1) * 1000000000 / count
block_moment count from step =
    let spans : step + 1 - 1 ≡ step = omega arith in
    ap (λ (n : ℕ). from * 1000000 + n * 1000000000 / count) (sym spans)

-- nothing comes before the first frame
pub no_tick : (pace : Timing) → IsPace pace → ticks_by pace 0 ≡ 0
no_tick pace sound =
    same_number (ticks_by pace 0) 0
    (λ n few.
    let first = (tick_comes pace 0 1 sound.tov).0 (omega (arith, few)) in absurd (omega (arith, first, sound.phase)))
    (λ n few. absurd (omega (arith, few)))

pub no_step : (pace : Timing) → IsPace pace → steps_before pace 0 ≡ 0
no_step pace sound =
    same_number (steps_before pace 0) 0
    (λ n few.
    let first = (step_comes pace 0 1 sound (omega arith)).0 (omega (arith, few)) in absurd (omega (arith, first)))
    (λ n few. absurd (omega (arith, few)))
