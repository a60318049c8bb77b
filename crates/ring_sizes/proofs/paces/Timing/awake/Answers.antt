use Rattle.std.proofs.Common.{◌≡◌, ℕ, ◌-◌, ◌<◌, ◌≤◌, min, length, rules, true, false, sym, ap, subst, ◌∙◌, arith}
use Rattle.std.proofs.lemmas.Grind.{common_steps}
use Rattle.ring_sizes.specs.Schedules.{is_stalled, steps_before}
use Rattle.ring_sizes.proofs.Stalls.{all_awake, awake_next, step_before_change}
use Rattle.ring_sizes.proofs.paces.Timing.awake.Goals as goal

pub returns-then-is_empty : goal.returns-then-is_empty
returns-then-is_empty c =
    let none : length c.args.stalls.now ≡ 0 = search rules in
    let all = all_awake c.args.stalls.now c.args.self.now c.args.from (c.args.to - c.args.from) none in
    c.saturating_sub.ensures ∙ sym all

between : (done steps to next : ℕ) → done < steps → done < to → next ≡ min steps to
    → (next ≤ steps) × ((next ≤ to) × (done ≤ next))
between done steps to next h k e =
    (grind (arith, common_steps), (grind (arith, common_steps), grind (arith, common_steps)))

pub loop-done-preserved-then-not-is_stalled : goal.loop-done-preserved-then-not-is_stalled
loop-done-preserved-then-not-is_stalled c =
    let more = step_before_change c.args.self.now c.loop-done.done c.next_change.result c.args.to c.requires.sound
    c.loop-done-test.true (omega (arith, c.next_change.ensures.later, c.step_moment-moment.ensures)) in
    let b = between c.loop-done.done (steps_before c.args.self.now c.next_change.result) c.args.to c.min-next.result more
    c.loop-done-test.true (c.min-next.ensures ∙ ap (λ (n : ℕ). min n c.args.to) c.steps_before.ensures) in
    let moment = c.step_moment-moment.ensures in
    record {
      few = omega (arith, c.loop-done.invariant.few, b.1.1);
      goes =
          awake_next c.args.stalls.now c.args.self.now c.loop-done.done c.next_change.result c.min-next.result c.args.to
          c.loop-done.awake _ _ false c.requires.sound c.loop-done-test.true
          (sym c.if-not-is_stalled.true ∙ c.is_stalled.ensures ∙ ap (is_stalled c.args.stalls.now) moment)
          (subst (λ (moment : ℕ). (at : ℕ) → moment ≤ at → at < c.next_change.result
          → is_stalled c.args.stalls.now at ≡ is_stalled c.args.stalls.now moment) moment c.next_change.ensures.same)
          b.0 b.1.0 b.1.1 (omega arith) c.loop-done.invariant.goes;
    }

pub loop-done-preserved : goal.loop-done-preserved
loop-done-preserved c =
    let more = step_before_change c.args.self.now c.loop-done.done c.next_change.result c.args.to c.requires.sound
    c.loop-done-test.true (omega (arith, c.next_change.ensures.later, c.step_moment-moment.ensures)) in
    let b = between c.loop-done.done (steps_before c.args.self.now c.next_change.result) c.args.to c.min-next.result more
    c.loop-done-test.true (c.min-next.ensures ∙ ap (λ (n : ℕ). min n c.args.to) c.steps_before.ensures) in
    let moment = c.step_moment-moment.ensures in
    record {
      few = omega (arith, c.loop-done.invariant.few, b.1.1);
      goes =
          awake_next c.args.stalls.now c.args.self.now c.loop-done.done c.next_change.result c.min-next.result c.args.to
          c.loop-done.awake _ _ true c.requires.sound c.loop-done-test.true
          (sym c.if-not-is_stalled.false ∙ c.is_stalled.ensures ∙ ap (is_stalled c.args.stalls.now) moment)
          (subst (λ (moment : ℕ). (at : ℕ) → moment ≤ at → at < c.next_change.result
          → is_stalled c.args.stalls.now at ≡ is_stalled c.args.stalls.now moment) moment c.next_change.ensures.same)
          b.0 b.1.0 b.1.1 (omega arith) c.loop-done.invariant.goes;
    }
