-- Where no tick passes a frame or a step of the reader, all events come in the same order.
use Rattle.std.proofs.Common.{◌≡◌, ℕ, zero, suc, ◌+◌, ◌-◌, ◌*◌, ◌<◌, List, [], ◌∷◌, ◌++◌, max}
use Rattle.std.proofs.Common.{replicate, refl, ap, ◌∙◌, arith}
use Rattle.std.specs.Prelude.{if◌then◌else◌}
use Rattle.std.proofs.lemmas.Nat.{div_below}
use Rattle.ring_sizes.specs.Orders.{PassesNoFrame, PassesNoStep, at_phase}
use Rattle.ring_sizes.specs.Schedules.{awake, beats, beats_between, is_stalled, schedule_from, schedule_to}
use Rattle.ring_sizes.specs.Schedules.{step_event, step_moment, steps_before, steps_from, tick_moment, ticks_by}
use Rattle.ring_sizes.specs.declared.events.Event.{Event}
use Rattle.ring_sizes.specs.declared.events.Event.TheVariants.{Packet, Tick}
use Rattle.ring_sizes.specs.declared.paces.Arrival.{Arrival}
use Rattle.ring_sizes.specs.declared.paces.Timing.{Timing}
use Rattle.ring_sizes.specs.declared.paces.StallTime.{StallTime}

module _ (stalls : List StallTime) (pace : Timing) (phase : ℕ) where
  abbrev other : Timing
  other = at_phase pace phase

  awake_same : (done steps : ℕ) → awake stalls other done steps ≡ awake stalls pace done steps
  awake_same done zero = refl
  awake_same done (suc steps) =
      ap (λ (n : ℕ). (if is_stalled stalls (step_moment pace (done + 1)) then 0 else 1) + n) (awake_same (done + 1) steps)

  abbrev reads : ℕ → ℕ → List Event
  reads from to = replicate (awake stalls pace from (to - from)) (step_event pace.takes_all)

  steps_same : (since at since2 at2 : ℕ) → steps_before pace since2 ≡ steps_before pace since
      → steps_before pace at2 ≡ steps_before pace at
      → steps_from stalls other since2 at2 ≡ steps_from stalls pace since at
  steps_same since at since2 at2 e f =
      ap (λ (n : ℕ). replicate n (step_event pace.takes_all))
      (awake_same (steps_before pace since2) (steps_before pace at2 - steps_before pace since2))
      ∙ ap (λ (n : ℕ). reads n (steps_before pace at2)) e
      ∙ ap (reads (steps_before pace since)) f

  beats_same : (more ticks since at since2 at2 : ℕ) → PassesNoStep pace phase
      → steps_before pace since2 ≡ steps_before pace since → steps_before pace at2 ≡ steps_before pace at
      → beats stalls other more ticks since2 at2 ≡ beats stalls pace more ticks since at
  beats_same zero ticks since at since2 at2 steps e f = steps_same since at since2 at2 e f
  beats_same (suc more) ticks since at since2 at2 steps e f =
      let next = tick_moment pace (ticks + 1) in
      let next2 = tick_moment other (ticks + 1) in
      let tick = Tick ((ticks + 1) * pace.tov) in
      ap (λ (events : List Event). events ++ tick ∷ beats stalls other more (ticks + 1) next2 at2)
      (steps_same since next since2 next2 e (steps (ticks + 1)))
      ∙ ap (λ (events : List Event). steps_from stalls pace since next ++ tick ∷ events)
      (beats_same more (ticks + 1) next at next2 at2 steps (steps (ticks + 1)) f)

  abbrev ticks_of : ℕ → ℕ → ℕ → ℕ → List Event
  ticks_of since at from to = beats stalls other (to - from) from since at

  gap_same : (since at last later : ℕ) → PassesNoStep pace phase
      → ticks_by other since ≡ ticks_by pace since → ticks_by other last ≡ ticks_by pace last
      → beats stalls other (ticks_by other last - ticks_by other since) (ticks_by other since) since at
      ≡ beats stalls pace (ticks_by pace last - ticks_by pace since) (ticks_by pace since) since at
  gap_same since at last later steps e f =
      ap (λ (n : ℕ). ticks_of since at n (ticks_by other last)) e
      ∙ ap (ticks_of since at (ticks_by pace since)) f
      ∙ beats_same (ticks_by pace last - ticks_by pace since) (ticks_by pace since) since at since at steps refl refl

  rest_same : (end since : ℕ) (arrivals : List Arrival) → PassesNoStep pace phase
      → ticks_by other since ≡ ticks_by pace since → PassesNoFrame pace phase end since arrivals
      → schedule_from stalls other end since arrivals ≡ schedule_from stalls pace end since arrivals
  rest_same end since [] steps e frames = gap_same since (end + 1) end 0 steps e frames
  rest_same end since (arrival ∷ arrivals) steps e frames =
      let at = max since arrival.at in
      ap (λ (events : List Event). events ++ Packet arrival.need ∷ schedule_from stalls other end at arrivals)
      (gap_same since at at 0 steps e frames.0)
      ∙ ap (λ (events : List Event). beats_between stalls pace since at ++ Packet arrival.need ∷ events)
      (rest_same end at arrivals steps frames.0 frames.1)

-- no tick comes by the first frame
first_ticks : (pace : Timing) (phase : ℕ) → phase < pace.tov → ticks_by (at_phase pace phase) 0 ≡ 0
first_ticks pace phase few =
    let none = div_below (0 + phase * 1000000) (pace.tov * 1000000) 1 (omega (arith, few)) (omega (arith, few)) in
    omega (arith, none)

pub same_events : (stalls : List StallTime) (pace : Timing) (phase end : ℕ) (arrivals : List Arrival)
    → pace.phase < pace.tov → phase < pace.tov → PassesNoFrame pace phase end 0 arrivals → PassesNoStep pace phase
    → schedule_to stalls (at_phase pace phase) arrivals end ≡ schedule_to stalls pace arrivals end
same_events stalls pace phase end arrivals small few frames steps =
    let none = first_ticks pace pace.phase small in
    let no_other = first_ticks pace phase few in
    rest_same stalls pace phase end 0 arrivals steps (omega (arith, none, no_other)) frames
