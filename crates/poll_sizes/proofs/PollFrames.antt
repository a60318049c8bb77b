-- Frame by frame, beside a reader that polls.
use Rattle.std.proofs.Common.{◌≡◌, ℕ, ◌+◌, ◌-◌, ◌<◌, ◌≤◌, max, List, ◌∷◌, ◌++◌, length}
use Rattle.std.proofs.Common.{drop, get_or, drop-cons, add-one, sym, ap, ◌∙◌}
use Rattle.std.proofs.lemmas.List.{drop_all}
use Rattle.poll_sizes.specs.Beats.{Beat, beats_from, ticks_between, ticks_on, timer_of}
use Rattle.ring_sizes.specs.Schedules.{ticks_by}
use Rattle.poll_sizes.specs.Polls.{all_beaten, beaten}
use Rattle.poll_sizes.specs.declared.polls.PollTiming.{PollTiming}
use Rattle.poll_sizes.specs.declared.polls.Polled.{Polled}
use Rattle.ring_sizes.specs.declared.events.Event.{Event}
use Rattle.ring_sizes.specs.declared.events.Event.TheVariants.{Packet}
use Rattle.ring_sizes.specs.declared.paces.Arrival.{Arrival}
use Rattle.ring_sizes.specs.declared.paces.StallTime.{StallTime}
use Rattle.poll_sizes.proofs.Runs.{run_append}

module _ {R : Type 0} (step : Event → R → R) (done : R → ℕ) (stalls : List StallTime) (pace : PollTiming) (end : ℕ)
    (arrivals : List Arrival) where
  abbrev run : List Beat → Polled R → Polled R
  run beats polled = all_beaten step done stalls pace.delay beats polled

  -- the next frame
  pub frame_goes : (since at index : ℕ) (default : Arrival) (polled before later total : Polled R) → index < length arrivals
      → at ≡ max since (get_or arrivals index default).at → before ≡ run (ticks_between pace since at) polled
      → later ≡ beaten step done stalls pace.delay
      (record { at = at; event = Packet (get_or arrivals index default).need }) before
      → run (beats_from pace end since (drop index arrivals)) polled ≡ total
      → run (beats_from pace end at (drop (index + 1) arrivals)) later ≡ total
  frame_goes since at index default polled before later total inside is was goes whole =
      let arrival = get_or arrivals index default in
      let rest = drop (index + 1) arrivals in
      let head : drop index arrivals ≡ arrival ∷ rest = rw add-one (drop-cons arrivals index default inside) in
      ap (run (beats_from pace end at rest)) goes
      ∙ ap (λ (p : Polled R). run (record { at = at; event = Packet arrival.need } ∷ beats_from pace end at rest) p) was
      ∙ sym (run_append step done stalls pace.delay (ticks_between pace since at)
      (record { at = at; event = Packet arrival.need } ∷ beats_from pace end at rest) polled)
      ∙ ap (λ (n : ℕ). run (ticks_between pace since n
      ++ record { at = n; event = Packet arrival.need } ∷ beats_from pace end n rest) polled) is
      ∙ ap (λ (left : List Arrival). run (beats_from pace end since left) polled) (sym head)
      ∙ whole

  -- what comes after the last frame
  pub last_goes : (since index : ℕ) (polled later total : Polled R) → length arrivals ≤ index
      → later ≡ run (ticks_between pace since end) polled
      → run (beats_from pace end since (drop index arrivals)) polled ≡ total → later ≡ total
  last_goes since index polled later total behind goes whole =
      goes
      ∙ ap (λ (left : List Arrival). run (beats_from pace end since left) polled) (sym (drop_all index arrivals behind))
      ∙ whole

-- the ticks between two moments, by their numbers
pub ticks_are : {R : Type 0} (step : Event → R → R) (done : R → ℕ) (stalls : List StallTime) (pace : PollTiming)
    (since at ticks last : ℕ) (polled : Polled R)
    → ticks ≡ ticks_by (timer_of pace) since → last ≡ ticks_by (timer_of pace) at
    → all_beaten step done stalls pace.delay (ticks_on pace (last - ticks) ticks) polled
    ≡ all_beaten step done stalls pace.delay (ticks_between pace since at) polled
ticks_are step done stalls pace since at ticks last polled e f =
    ap (λ (n : ℕ). all_beaten step done stalls pace.delay (ticks_on pace (n - ticks) ticks) polled) f
    ∙ ap (λ (n : ℕ). all_beaten step done stalls pace.delay (ticks_on pace (ticks_by (timer_of pace) at - n) n) polled) e
