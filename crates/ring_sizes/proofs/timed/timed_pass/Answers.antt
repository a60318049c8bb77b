use Rattle.std.proofs.Common.{ℕ, ◌≡◌, ◌≤◌, ◌+◌, ◌*◌, ◌<◌, ◌^◌, max, get_or, subst, sym, ap, ◌∙◌, arith, rules}
use Rattle.std.proofs.Common.{nat_cmp}
use Rattle.std.specs.Ordering.{ord_max}
use Rattle.std.proofs.lemmas.List.Elements.{All-get_or}
use Rattle.std.proofs.lemmas.Grind.{common_steps}
use Rattle.ring_sizes.specs.Passes.{IsWithin, offered}
use Rattle.ring_sizes.specs.Rests.{IsTicked, rested}
use Rattle.ring_sizes.specs.Schedules.{steps_before, ticks_by}
use Rattle.ring_sizes.specs.declared.events.Event.TheVariants.{Packet}
use Rattle.ring_sizes.specs.declared.paces.Arrival.{Arrival}
use Rattle.ring_sizes.specs.declared.sizes.Pass.{Pass}
use Rattle.ring_sizes.specs.declared.timed.TimedPlace.{TimedPlace}
use Rattle.ring_sizes.proofs.Counts.{steps_rise, ticks_rise}
use Rattle.ring_sizes.proofs.Still.{rested_at, rested_ticked, rested_within, same_place, same_rest}
use Rattle.ring_sizes.proofs.Frames.{arrival_goes, end_goes, max_below, packet_ticked}
use Rattle.ring_sizes.proofs.Within.{stays_within, weaker}
use Rattle.ring_sizes.proofs.timed.timed_pass.Goals.{else-until-at, then-until-at}
use Rattle.ring_sizes.proofs.timed.timed_pass.Goals as goal

first_max : (since at next : ℕ) → next ≡ max since at → since ≤ next
first_max since at next e = grind (arith, common_steps, e)

greater : (since at next : ℕ) → next ≡ ord_max nat_cmp since at → next ≡ max since at
greater since at next e = search rules

pub rest-pass-requires-clause-ticks : goal.rest-pass-requires-clause-ticks
rest-pass-requires-clause-ticks c =
    let none : Arrival = record { at = 0; need = 0 } in
    let arrival : Arrival = get_or c.args.arrivals.now c.loop-arrival.arrival-index none in
    let soon : arrival.at < 2 ^ 53 =
    All-get_or (λ (arrival : Arrival). arrival.at < 2 ^ 53) c.args.arrivals.now c.loop-arrival.arrival-index none
    c.loop-arrival-test.true c.requires.early in
    let max_is : c.max-at.result ≡ max c.loop-arrival.at arrival.at =
    greater c.loop-arrival.at arrival.at c.max-at.result c.max-at.ensures in
    let early = max_below c.loop-arrival.at arrival.at (2 ^ 53) c.loop-arrival.invariant.early soon in
    let rise = ticks_rise c.args.pace.now c.max-at.result (2 ^ 53) c.requires.sound.tov (omega (arith, max_is, early)) in
    omega (arith, rise, ap (λ (place : TimedPlace). place.ticks) c.new-next.ensures)

pub rest-pass-requires-clause-steps : goal.rest-pass-requires-clause-steps
rest-pass-requires-clause-steps c =
    let none : Arrival = record { at = 0; need = 0 } in
    let arrival : Arrival = get_or c.args.arrivals.now c.loop-arrival.arrival-index none in
    let soon : arrival.at < 2 ^ 53 =
    All-get_or (λ (arrival : Arrival). arrival.at < 2 ^ 53) c.args.arrivals.now c.loop-arrival.arrival-index none
    c.loop-arrival-test.true c.requires.early in
    let max_is : c.max-at.result ≡ max c.loop-arrival.at arrival.at =
    greater c.loop-arrival.at arrival.at c.max-at.result c.max-at.ensures in
    let early = max_below c.loop-arrival.at arrival.at (2 ^ 53) c.loop-arrival.invariant.early soon in
    let rise = steps_rise c.args.pace.now c.max-at.result (2 ^ 53) c.requires.sound (omega (arith, max_is, early)) in
    omega (arith, rise, ap (λ (place : TimedPlace). place.steps) c.new-next.ensures)

still_at : (place other : TimedPlace) (until before : ℕ) → place ≡ other → until ≡ before
    → ((at : ℕ) → at < before → (at < other.tick_at) × (at ≤ other.step_at))
    → (at : ℕ) → at < until → (at < place.tick_at) × (at ≤ place.step_at)
still_at place other until before e f h =
    subst (λ (p : TimedPlace). (at : ℕ) → at < until → (at < p.tick_at) × (at ≤ p.step_at)) (sym e)
    (subst (λ (n : ℕ). (at : ℕ) → at < n → (at < other.tick_at) × (at ≤ other.step_at)) (sym f) h)

-- the pass before the packet
was : (c : goal.After-pass-1) → c.if-until-at.pass ≡ rested c.args.stalls.now c.args.pace.now
    (ticks_by c.args.pace.now c.loop-arrival.at) (ticks_by c.args.pace.now c.max-at.result)
    (steps_before c.args.pace.now c.loop-arrival.at) (steps_before c.args.pace.now c.max-at.result) c.loop-arrival.pass
was c =
    let none : Arrival = record { at = 0; need = 0 } in
    let arrival : Arrival = get_or c.args.arrivals.now c.loop-arrival.arrival-index none in
    let max_is : c.max-at.result ≡ max c.loop-arrival.at arrival.at =
    greater c.loop-arrival.at arrival.at c.max-at.result c.max-at.ensures in
    elim c.if-until-at.branch [
      | then-until-at w ↦
          w.pass-is ∙ w.rest-pass.ensures
          ∙ rested_at c.args.stalls.now c.args.pace.now c.loop-arrival.place w.new-next.result c.loop-arrival.at c.max-at.result
          c.loop-arrival.pass c.loop-arrival.invariant.place w.new-next.ensures
      | else-until-at w ↦
          (let still = c.loop-arrival.invariant.still c.max-at.result w.if-until-at.false in
          w.pass-is
          ∙ same_rest c.args.stalls.now c.args.pace.now c.loop-arrival.place c.loop-arrival.at c.max-at.result
          c.loop-arrival.pass c.requires.sound c.loop-arrival.invariant.place
          (first_max c.loop-arrival.at arrival.at c.max-at.result max_is) still.0 still.1)
    ]

pub offer-requires : goal.offer-requires
offer-requires c =
    let bound : ℕ = 3 * c.loop-arrival.arrival-index + 1 in
    weaker (bound + 2) (2 ^ 63) c.if-until-at.pass (omega (arith, c.loop-arrival-test.true, c.requires.few))
    (subst (IsWithin (bound + 2)) (sym (was c))
    (rested_within bound c.args.stalls.now c.args.pace.now _ _ _ _ c.loop-arrival.pass c.loop-arrival.invariant.within))

pub loop-arrival-preserved : goal.loop-arrival-preserved
loop-arrival-preserved c =
    let none : Arrival = record { at = 0; need = 0 } in
    let arrival : Arrival = get_or c.args.arrivals.now c.loop-arrival.arrival-index none in
    let since : ℕ = c.loop-arrival.at in
    let at : ℕ = c.max-at.result in
    let bound : ℕ = 3 * c.loop-arrival.arrival-index + 1 in
    let max_is : at ≡ max since arrival.at = greater since arrival.at at c.max-at.ensures in
    let rises = first_max since arrival.at at max_is in
    let soon : arrival.at < 2 ^ 53 =
    All-get_or (λ (arrival : Arrival). arrival.at < 2 ^ 53) c.args.arrivals.now c.loop-arrival.arrival-index none
    c.loop-arrival-test.true c.requires.early in
    let early = max_below since arrival.at (2 ^ 53) c.loop-arrival.invariant.early soon in
    let was = was c.before in
    let ticked : IsTicked c.args.pace.now (ticks_by c.args.pace.now at) c.if-until-at.pass =
    subst (IsTicked c.args.pace.now (ticks_by c.args.pace.now at)) (sym was)
    (rested_ticked c.args.stalls.now c.args.pace.now _ _ _ _ c.loop-arrival.pass
    (ticks_rise c.args.pace.now since at c.requires.sound.tov rises) c.loop-arrival.invariant.ticked) in
    let within : IsWithin (bound + 2) c.if-until-at.pass =
    subst (IsWithin (bound + 2)) (sym was)
    (rested_within bound c.args.stalls.now c.args.pace.now _ _ _ _ c.loop-arrival.pass c.loop-arrival.invariant.within) in
    let next : c.offer.new.self ≡ offered c.args.room c.args.pace.now.tov arrival.need c.if-until-at.pass =
    c.offer.ensures.goes ∙ ap (λ (tov : ℕ). offered c.args.room tov arrival.need c.if-until-at.pass) c.from-tov.ensures in
    record {
      place =
          elim c.if-until-at.branch [
            | then-until-at w ↦ w.place-is ∙ w.new-next.ensures
            | else-until-at w ↦
                (let still = c.loop-arrival.invariant.still at w.if-until-at.false in
                w.place-is
                ∙ same_place c.args.pace.now c.loop-arrival.place since at c.requires.sound c.loop-arrival.invariant.place rises
                still.0 still.1)
          ];
      still =
          elim c.if-until-at.branch [
            | then-until-at w ↦
                still_at c.if-until-at.place w.new-next.result c.if-until-at.until w.until-until-then-until-at.result w.place-is
                w.until-is w.until-until-then-until-at.ensures
            | else-until-at w ↦
                still_at c.if-until-at.place c.loop-arrival.place c.if-until-at.until c.loop-arrival.until w.place-is w.until-is
                c.loop-arrival.invariant.still
          ];
      early = omega (arith, max_is, early);
      within =
          subst (IsWithin (3 * (c.loop-arrival.arrival-index + 1) + 1)) (sym next)
          (weaker (bound + 2 + 1) (3 * (c.loop-arrival.arrival-index + 1) + 1) _ (omega arith)
          (stays_within (bound + 2) c.args.room c.args.pace.now.tov (Packet arrival.need) c.if-until-at.pass within
          (subst (λ (pass : Pass). pass.used < 2 ^ 32) next c.offer.ensures.used)));
      ticked =
          subst (IsTicked c.args.pace.now (ticks_by c.args.pace.now at)) (sym next)
          (packet_ticked c.args.room arrival.need c.args.pace.now _ c.if-until-at.pass ticked);
      goes =
          arrival_goes c.args.room c.args.stalls.now c.args.pace.now c.args.end since at c.args.arrivals.now
          c.loop-arrival.arrival-index none c.loop-arrival.pass c.if-until-at.pass c.offer.new.self _ c.requires.sound
          c.loop-arrival.invariant.ticked c.loop-arrival-test.true max_is was next c.loop-arrival.invariant.goes;
    }

pub returns : goal.returns
returns c =
    end_goes c.args.room c.args.stalls.now c.args.pace.now c.args.end c.loop-arrival.at c.ticks_by.result
    c.steps_before.result c.args.arrivals.now c.loop-arrival.arrival-index c.loop-arrival.pass c.rest.result _
    c.requires.sound c.loop-arrival.invariant.ticked c.loop-arrival-test.false c.ticks_by.ensures c.steps_before.ensures
    (c.rest.ensures
    ∙ ap (λ (p : TimedPlace). rested c.args.stalls.now c.args.pace.now p.ticks c.ticks_by.result p.steps c.steps_before.result
    c.loop-arrival.pass) c.loop-arrival.invariant.place)
    c.loop-arrival.invariant.goes
