use Rattle.std.proofs.Common.{◌≡◌, ◌+◌, ◌<◌, ◌^◌, drop, subst, sym, ap, arith}
use Rattle.ring_sizes.specs.Passes.{IsWithin, first_pass, passed_all}
use Rattle.ring_sizes.specs.declared.events.Event.TheVariants.{Packet}
use Rattle.ring_sizes.specs.declared.sizes.Pass.{Pass}
use Rattle.ring_sizes.proofs.Within.{stays_within}
use Rattle.ring_sizes.proofs.Never.{all_grow, goes_next, ends_at, threshold_at}
use Rattle.ring_sizes.proofs.sizes.least.Goals as goal

pub loop-event-preserved : goal.loop-event-preserved
loop-event-preserved c =
    let next = c.take.ensures.goes in
    record {
      within =
          subst (IsWithin (c.loop-event.event-index + 1 + 1)) (sym next)
          (stays_within (c.loop-event.event-index + 1) c.args.room c.args.tov _ c.loop-event.pass c.loop-event.invariant.within
          (subst (λ (pass : Pass). pass.used < 2 ^ 32) next c.take.ensures.used));
      goes =
          subst (λ (pass : Pass). passed_all c.args.room c.args.tov (drop (c.loop-event.event-index + 1) c.args.events.now) pass
          ≡ passed_all c.args.room c.args.tov c.args.events.now (first_pass c.args.tov)) (sym next)
          (goes_next c.args.room c.args.tov c.args.events.now c.loop-event.event-index (Packet 0) c.loop-event.pass _
          c.loop-event-test.true c.loop-event.invariant.goes);
    }

pub returns-clause-some : goal.returns-clause-some
returns-clause-some c =
    let end = ends_at c.args.room c.args.tov c.args.events.now c.loop-event.event-index c.loop-event.pass _
    c.loop-event-test.false
    c.loop-event.invariant.goes in
    let more = all_grow c.args.room c.args.tov c.args.events.now (first_pass c.args.tov) in
    let same = ap (λ pass. pass.least) end in
    omega (arith, same, more)

pub returns-clause-threshold : goal.returns-clause-threshold
returns-clause-threshold c = λ blocks happenings same some.
    threshold_at c.args.room c.args.tov blocks happenings c.args.events.now c.loop-event.pass same
    (ends_at c.args.room c.args.tov c.args.events.now c.loop-event.event-index c.loop-event.pass _ c.loop-event-test.false
    c.loop-event.invariant.goes) some
