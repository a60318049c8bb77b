-- The events of ring_sizes' schedule, each at its moment.
use Rattle.std.proofs.Common.{◌≡◌, ℕ, zero, suc, ◌+◌, ◌-◌, ◌*◌, Bool, true, false, cond, List, [], ◌∷◌, ◌++◌}
use Rattle.std.proofs.Common.{max, replicate, refl, sym, ap, ◌∙◌, arith}
use Rattle.std.proofs.lemmas.List.{map-append}
use Rattle.ring_sizes.specs.Schedules.{awake, beats, beats_between, is_stalled, schedule_from}
use Rattle.ring_sizes.specs.Schedules.{step_event, step_moment, steps_before, steps_from, tick_moment, ticks_by}
use Rattle.ring_sizes.specs.declared.events.Event.{Event}
use Rattle.ring_sizes.specs.declared.events.Event.TheVariants.{Packet, Tick, Read}
use Rattle.ring_sizes.specs.declared.paces.Arrival.{Arrival}
use Rattle.ring_sizes.specs.declared.paces.Timing.{Timing}
use Rattle.ring_sizes.specs.declared.paces.StallTime.{StallTime}
use Rattle.pace_laws.proofs.Orders.{Stamped}
use Rattle.pace_laws.proofs.Spreads.{event_in, events_in, reads_of_step, spread, spread_append}

abbrev pub tick_of : Timing → ℕ → Stamped
tick_of pace number = record { at = tick_moment pace number; event = Tick (number * pace.tov) }

-- the next ticks after so many
abbrev pub ticks_on : Timing → ℕ → ℕ → List Stamped
ticks_on pace ticks zero = []
ticks_on pace ticks (suc more) = tick_of pace (ticks + 1) ∷ ticks_on pace (ticks + 1) more

-- the reads of a step
abbrev pub reads_at : Bool → ℕ → ℕ → List Stamped
reads_at true at each = []
reads_at false at each = replicate each (record { at = at; event = Read })

abbrev pub packet_of : Arrival → Stamped
packet_of arrival = record { at = arrival.at; event = Packet arrival.need }

-- for a ring of so many blocks
module _ (stalls : List StallTime) (pace : Timing) (blocks : ℕ) where
  abbrev pub each : ℕ
  each = reads_of_step blocks pace.takes_all

  abbrev pub step_reads : ℕ → List Stamped
  step_reads number = reads_at (is_stalled stalls (step_moment pace number)) (step_moment pace number) each

  -- the next steps after so many
  abbrev pub steps_on : ℕ → ℕ → List Stamped
  steps_on done zero = []
  steps_on done (suc more) = step_reads (done + 1) ++ steps_on (done + 1) more

  abbrev pub steps_in : ℕ → ℕ → List Stamped
  steps_in since at = steps_on (steps_before pace since) (steps_before pace at - steps_before pace since)

  abbrev pub beats_on : ℕ → ℕ → ℕ → ℕ → List Stamped
  beats_on zero ticks since at = steps_in since at
  beats_on (suc more) ticks since at =
      steps_in since (tick_moment pace (ticks + 1))
      ++ tick_of pace (ticks + 1) ∷ beats_on more (ticks + 1) (tick_moment pace (ticks + 1)) at

  abbrev pub beats_in : ℕ → ℕ → ℕ → List Stamped
  beats_in since by at = beats_on (ticks_by pace by - ticks_by pace since) (ticks_by pace since) since at

  abbrev pub stamped_from : ℕ → ℕ → List Arrival → List Stamped
  stamped_from end since [] = beats_in since end (end + 1)
  stamped_from end since (arrival ∷ arrivals) =
      let at = max since arrival.at in
      beats_in since at at ++ record { at = at; event = Packet arrival.need } ∷ stamped_from end at arrivals

  -- ---- without their moments

  same_reads : (at n : ℕ) → events_in (replicate n (record { at = at; event = Read })) ≡ replicate n Read
  same_reads at zero = refl
  same_reads at (suc n) = ap (λ (events : List Event). Read ∷ events) (same_reads at n)

  step_events : (takes_all : Bool) (rest : List Event)
      → spread blocks (step_event takes_all ∷ rest) ≡ replicate (reads_of_step blocks takes_all) Read ++ spread blocks rest
  step_events true rest = refl
  step_events false rest = refl

  next_events : (stalled : Bool) (at more : ℕ) (rest : List Stamped)
      → events_in rest ≡ spread blocks (replicate more (step_event pace.takes_all))
      → events_in (reads_at stalled at each ++ rest)
      ≡ spread blocks (replicate (cond stalled 0 1 + more) (step_event pace.takes_all))
  next_events true at more rest e =
      let none : 0 + more ≡ more = omega arith in
      e ∙ ap (λ (n : ℕ). spread blocks (replicate n (step_event pace.takes_all))) (sym none)
  next_events false at more rest e =
      let one : 1 + more ≡ suc more = omega arith in
      map-append event_in (replicate each (record { at = at; event = Read })) rest
      ∙ ap (λ (events : List Event). events ++ events_in rest) (same_reads at each)
      ∙ ap (λ (events : List Event). replicate each Read ++ events) e
      ∙ sym (step_events pace.takes_all (replicate more (step_event pace.takes_all)))
      ∙ ap (λ (n : ℕ). spread blocks (replicate n (step_event pace.takes_all))) (sym one)

  steps_events : (done more : ℕ)
      → events_in (steps_on done more) ≡ spread blocks (replicate (awake stalls pace done more) (step_event pace.takes_all))
  steps_events done zero = refl
  steps_events done (suc more) =
      next_events (is_stalled stalls (step_moment pace (done + 1))) (step_moment pace (done + 1))
      (awake stalls pace (done + 1) more) (steps_on (done + 1) more) (steps_events (done + 1) more)

  pub in_events : (since at : ℕ) → events_in (steps_in since at) ≡ spread blocks (steps_from stalls pace since at)
  in_events since at = steps_events (steps_before pace since) (steps_before pace at - steps_before pace since)

  -- the events of two lists, the second after one more
  pub joined_events : (front back : List Stamped) (one : Stamped) (before after : List Event) (event : Event)
      → events_in front ≡ spread blocks before → one.event ≡ event → spread blocks (event ∷ after) ≡ event ∷ spread blocks after
      → events_in back ≡ spread blocks after
      → events_in (front ++ one ∷ back) ≡ spread blocks (before ++ event ∷ after)
  joined_events front back one before after event e same kept f =
      map-append event_in front (one ∷ back)
      ∙ ap (λ (events : List Event). events ++ events_in (one ∷ back)) e
      ∙ ap (λ (events : List Event). spread blocks before ++ one.event ∷ events) f
      ∙ ap (λ (event : Event). spread blocks before ++ event ∷ spread blocks after) same
      ∙ ap (λ (events : List Event). spread blocks before ++ events) (sym kept)
      ∙ sym (spread_append blocks before (event ∷ after))

  beats_events : (more ticks since at : ℕ)
      → events_in (beats_on more ticks since at) ≡ spread blocks (beats stalls pace more ticks since at)
  beats_events zero ticks since at = in_events since at
  beats_events (suc more) ticks since at =
      let next = tick_moment pace (ticks + 1) in
      joined_events (steps_in since next) (beats_on more (ticks + 1) next at) (tick_of pace (ticks + 1))
      (steps_from stalls pace since next) (beats stalls pace more (ticks + 1) next at) (Tick ((ticks + 1) * pace.tov))
      (in_events since next) refl refl (beats_events more (ticks + 1) next at)

  pub stamped_events : (end since : ℕ) (arrivals : List Arrival)
      → events_in (stamped_from end since arrivals) ≡ spread blocks (schedule_from stalls pace end since arrivals)
  stamped_events end since [] =
      beats_events (ticks_by pace end - ticks_by pace since) (ticks_by pace since) since (end + 1)
  stamped_events end since (arrival ∷ arrivals) =
      let at = max since arrival.at in
      joined_events (beats_in since at at) (stamped_from end at arrivals) (record { at = at; event = Packet arrival.need })
      (beats_between stalls pace since at) (schedule_from stalls pace end at arrivals) (Packet arrival.need)
      (beats_events (ticks_by pace at - ticks_by pace since) (ticks_by pace since) since at) refl refl
      (stamped_events end at arrivals)
