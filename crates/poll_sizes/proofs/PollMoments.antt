-- Ticks come early enough, and there are few.
use Rattle.std.proofs.Common.{◌≡◌, ℕ, ◌<◌, ◌≤◌, ◌^◌, max, All, List, length, get_or, arith}
use Rattle.std.proofs.lemmas.List.Elements.{All-get_or}
use Rattle.std.proofs.lemmas.Grind.{common_steps}
use Rattle.poll_sizes.specs.Beats.{timer_of}
use Rattle.poll_sizes.specs.declared.polls.PollTiming.{PollTiming}
use Rattle.ring_sizes.specs.Schedules.{IsPace, ticks_by}
use Rattle.ring_sizes.proofs.Counts.{ticks_few, ticks_rise}
use Rattle.ring_sizes.proofs.Frames.{max_below}
use Rattle.ring_sizes.specs.declared.paces.Arrival.{Arrival}

module _ (pace : PollTiming) (sound : IsPace (timer_of pace)) where
  pub few_last : (last : ℕ) → last ≤ ticks_by (timer_of pace) (2 ^ 53) → last < 2 ^ 54
  few_last last few = let most = ticks_few (timer_of pace) (2 ^ 53) sound (omega arith) in omega (arith, most, few)

  pub by_early : (at : ℕ) → at ≤ 2 ^ 53
      → (ticks_by (timer_of pace) at < 2 ^ 54) × (ticks_by (timer_of pace) at ≤ ticks_by (timer_of pace) (2 ^ 53))
  by_early at early =
      (ticks_few (timer_of pace) at sound early, ticks_rise (timer_of pace) at (2 ^ 53) sound.tov early)

pub next_early : (arrivals : List Arrival) (index since next : ℕ) (default : Arrival) → index < length arrivals
    → All (λ (arrival : Arrival). arrival.at < 2 ^ 53) arrivals → since < 2 ^ 53
    → next ≡ max since (get_or arrivals index default).at → (since ≤ next) × (next < 2 ^ 53)
next_early arrivals index since next default inside early before is =
    let soon : (get_or arrivals index default).at < 2 ^ 53 =
    All-get_or (λ (arrival : Arrival). arrival.at < 2 ^ 53) arrivals index default inside early in
    let below = max_below since (get_or arrivals index default).at (2 ^ 53) before soon in
    (first since (get_or arrivals index default).at next is, omega (arith, is, below))
  where
    first : (since at next : ℕ) → next ≡ max since at → since ≤ next
    first since at next e = grind (arith, common_steps, e)

pub few_by : (done last ticks most : ℕ) → done ≤ max last ticks → last ≤ most → ticks ≤ most → done ≤ most
few_by done last ticks most h few begun = grind (arith, common_steps, h, few, begun)

pub upto_last : (next last ticks : ℕ) → next ≤ last → next ≤ max last ticks
upto_last next last ticks h = grind (arith, common_steps, h)
