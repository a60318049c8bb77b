-- Which ticks and steps come by the end.
use Rattle.std.proofs.Common.{◌≡◌, ℕ, ◌+◌, ◌-◌, ◌*◌, ◌<◌, ◌≤◌, Bool, true, false, refl, arith}
use Rattle.std.specs.Prelude.{◌/◌, ◌%◌, ◌↔◌, nat_le, if◌then◌else◌}
use Rattle.std.proofs.lemmas.Bool.{leb-false, leb-true}
use Rattle.std.proofs.lemmas.Nat.{div-add-mod', div_below, le-div, mul-le}
use native.Mathlib.Nat.{mul_assoc}
use Rattle.reader_pace.specs.Orders.{ComesBy}
use Rattle.reader_pace.specs.Timelines.{block_step, block_steps, pause_step, pause_steps, steps_of, tick_at, ticks_by}

-- a multiple of a number is at most another one where the factor is at most the quotient
multiple : (factor number most : ℕ) → factor ≤ most / number → factor * number ≤ most
multiple factor number most h =
    omega (arith, div-add-mod' most number, mul-le factor number (most / number) number h (omega arith))

tick_listed : (tov phase number end : ℕ) → phase < tov → 1 ≤ number → ComesBy end (tick_at tov phase number)
    → number ≤ ticks_by tov phase end
tick_listed tov phase number end p one h =
    le-div number (end + phase * 1000000) (tov * 1000000) (omega (arith, p))
    (omega (arith, h, mul_assoc number tov 1000000, mul-le 1 tov number tov one (omega arith)))

listed_tick : (tov phase number end : ℕ) → number ≤ ticks_by tov phase end → ComesBy end (tick_at tov phase number)
listed_tick tov phase number end h =
    omega (arith, mul_assoc number tov 1000000, multiple number (tov * 1000000) (end + phase * 1000000) h)

pub ticks_end : (tov phase number end : ℕ) → phase < tov → 1 ≤ number
    → ComesBy end (tick_at tov phase number) ↔ (number ≤ ticks_by tov phase end)
ticks_end tov phase number end p one = (tick_listed tov phase number end p one, listed_tick tov phase number end)

pauses_end-by : (period from step end : ℕ) (begun : Bool) → 0 < period → nat_le (from * 1000000) end ≡ begun
    → (pause_step period from step ≤ end)
    ↔ (step < (if begun then pause_steps period (end - from * 1000000) else 0))
pauses_end-by period from step end true p t =
    let begun = leb-true (from * 1000000) end t in (
      λ h. omega (
        arith,
        le-div step (end - from * 1000000) (period * 1000000) (omega (arith, p))
            (omega (arith, h, begun, mul_assoc step period 1000000)),
      ),
      λ h. omega (
        arith,
        begun,
        mul_assoc step period 1000000,
        multiple step (period * 1000000) (end - from * 1000000) (omega (arith, h)),
      ),
    )
pauses_end-by period from step end false p t =
    let later = leb-false (from * 1000000) end t in
    (λ h. absurd (omega (arith, h, later)), λ h. absurd (omega (arith, h)))

pub pauses_end : (period from step end : ℕ) → 0 < period
    → (pause_step period from step ≤ end) ↔ (step < steps_of (pause_steps period) from end)
pauses_end period from step end p = pauses_end-by period from step end (nat_le (from * 1000000) end) p refl

quotient_small : (number divisor most : ℕ) → 0 < divisor → number / divisor ≤ most → number < (most + 1) * divisor
quotient_small number divisor most p h =
    omega (
      arith,
      div-add-mod' number divisor,
      mod_lt number divisor p,
      mul-le (number / divisor) divisor most divisor h (omega arith),
      add_one_times most divisor,
    )
  where
    add_one_times : (a b : ℕ) → (a + 1) * b ≡ a * b + b
    add_one_times a b = grind arith

    mod_lt : (a b : ℕ) → 0 < b → a % b < b
    mod_lt a b p = grind (arith, p)

blocks_end-by : (count from step end : ℕ) (begun : Bool) → 0 < count → nat_le (from * 1000000) end ≡ begun
    → (block_step count from step ≤ end)
    ↔ (step < (if begun then block_steps count (end - from * 1000000) else 0))
blocks_end-by count from step end true p t =
    let begun = leb-true (from * 1000000) end t in
    let long = end - from * 1000000 in (
      λ h. omega (
        arith,
        le-div (step + 1) ((long + 1) * count + 999999999) 1000000000 (omega arith)
            (omega (arith, quotient_small (step * 1000000000) count long p (omega (arith, h, begun)))),
      ),
      λ h. omega (
        arith,
        begun,
        div_below (step * 1000000000) count (long + 1) p
            (omega (arith, multiple (step + 1) 1000000000 ((long + 1) * count + 999999999) (omega (arith, h)))),
      ),
    )
blocks_end-by count from step end false p t =
    let later = leb-false (from * 1000000) end t in
    (λ h. absurd (omega (arith, h, later)), λ h. absurd (omega (arith, h)))

pub blocks_end : (count from step end : ℕ) → 0 < count
    → (block_step count from step ≤ end) ↔ (step < steps_of (block_steps count) from end)
blocks_end count from step end p = blocks_end-by count from step end (nat_le (from * 1000000) end) p refl
