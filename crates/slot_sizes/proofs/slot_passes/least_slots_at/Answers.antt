use Rattle.std.proofs.Common.{ℕ, ◌≡◌, ◌≤◌, ◌+◌, ◌^◌, max, get_or, ap, ◌∙◌, arith}
use Rattle.std.specs.Prelude.{◌==◌}
use Rattle.std.proofs.lemmas.Grind.{common_steps}
use Rattle.ring_sizes.specs.declared.paces.Arrival.{Arrival}
use Rattle.ring_sizes.proofs.Counts.{steps_rise}
use Rattle.ring_sizes.proofs.Still.{released_few}
use Rattle.slot_sizes.specs.SlotPasses.{slots_read}
use Rattle.slot_sizes.specs.declared.slot_passes.SlotPass.{SlotPass}
use Rattle.slot_sizes.proofs.SlotNever.{threshold_at}
use Rattle.slot_sizes.proofs.SlotSteps.{arrival_goes, end_goes, greater, soon, steps_are}
use Rattle.slot_sizes.proofs.slot_passes.least_slots_at.Goals as goal

at_least : (one other n : ℕ) → n ≡ max one other → 1 ≤ one → 1 ≤ n
at_least one other n e h = grind (arith, common_steps, e)

pub awake-requires-clause-early : goal.awake-requires-clause-early
awake-requires-clause-early c =
    let none : Arrival = record { at = 0; need = 0 } in
    let arrival : Arrival = get_or c.args.arrivals.now c.loop-arrival.arrival-index none in
    let is : c.max-at.result ≡ max c.loop-arrival.at arrival.at =
    greater c.loop-arrival.at arrival.at c.max-at.result c.max-at.ensures in
    let early = soon c.args.arrivals.now c.loop-arrival.arrival-index none c.loop-arrival.at c.max-at.result
    c.loop-arrival-test.true c.requires.early c.loop-arrival.invariant.early is in
    let rise = steps_rise c.args.pace.now c.max-at.result (2 ^ 53) c.requires.sound (omega (arith, early)) in
    omega (arith, rise, c.steps_before-next.ensures)

pub loop-arrival-preserved : goal.loop-arrival-preserved
loop-arrival-preserved c =
    let none : Arrival = record { at = 0; need = 0 } in
    let arrival : Arrival = get_or c.args.arrivals.now c.loop-arrival.arrival-index none in
    let is : c.max-at.result ≡ max c.loop-arrival.at arrival.at =
    greater c.loop-arrival.at arrival.at c.max-at.result c.max-at.ensures in
    let early = soon c.args.arrivals.now c.loop-arrival.arrival-index none c.loop-arrival.at c.max-at.result
    c.loop-arrival-test.true c.requires.early c.loop-arrival.invariant.early is in
    let steps = steps_are c.args.stalls.now c.args.pace.now c.loop-arrival.at c.max-at.result c.loop-arrival.steps
    c.steps_before-next.result c.awake.result c.loop-arrival.invariant.steps c.steps_before-next.ensures c.awake.ensures in
    let was = c.read.ensures ∙ ap (λ (n : ℕ). slots_read c.args.pace.now.takes_all n c.loop-arrival.pass) steps in
    let done = ap (λ (p : SlotPass). p.done) c.fill.ensures ∙ ap (λ (p : SlotPass). p.done + 1) c.read.ensures in
    let released = ap (λ (p : SlotPass). p.released) c.fill.ensures ∙ ap (λ (p : SlotPass). p.released) c.read.ensures in
    let least = ap (λ (p : SlotPass). p.least) c.fill.ensures in
    let few = released_few c.args.pace.now.takes_all (c.awake.result == 0) c.awake.result c.loop-arrival.pass.released
    c.loop-arrival.pass.done c.loop-arrival.invariant.behind in
    record {
      early = early;
      steps = c.steps_before-next.ensures;
      few = omega (arith, done, c.loop-arrival.invariant.few);
      behind = omega (arith, done, released, few);
      some =
          at_least c.read.new.self.least _ _ least
          (omega (arith, c.loop-arrival.invariant.some, ap (λ (p : SlotPass). p.least) c.read.ensures));
      goes = λ end.
          arrival_goes c.args.stalls.now c.args.pace.now end c.loop-arrival.at c.max-at.result c.args.arrivals.now
          c.loop-arrival.arrival-index none c.loop-arrival.pass c.read.new.self c.fill.new.self _ c.loop-arrival-test.true is
          was
          c.fill.ensures (c.loop-arrival.invariant.goes end);
    }

pub returns-clause-least : goal.returns-clause-least
returns-clause-least c = λ end.
    end_goes c.args.stalls.now c.args.pace.now end c.loop-arrival.at c.args.arrivals.now c.loop-arrival.arrival-index
    c.loop-arrival.pass _ c.loop-arrival-test.false (c.loop-arrival.invariant.goes end)

pub returns-clause-threshold : goal.returns-clause-threshold
returns-clause-threshold c = λ size end happenings same some.
    threshold_at size happenings _ c.loop-arrival.pass.least same
    (end_goes c.args.stalls.now c.args.pace.now end c.loop-arrival.at c.args.arrivals.now c.loop-arrival.arrival-index
    c.loop-arrival.pass _ c.loop-arrival-test.false (c.loop-arrival.invariant.goes end)) some
