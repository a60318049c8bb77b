use Rattle.std.proofs.Common.{◌↔◌, ℕ, ◌≤◌, subst, sym, ap, ◌∙◌, arith}
use Rattle.poll_sizes.specs.declared.polls.Polled.{Polled}
use Rattle.ring_events.specs.Happenings.{NeverFreezes}
use Rattle.ring_sizes.specs.declared.sizes.Pass.{Pass}
use Rattle.poll_sizes.proofs.OwnEvents.{least_some, never_polled, pass_is}
use Rattle.poll_sizes.proofs.polled_passes.least_polled.Goals as goal

pub returns-clause-least : goal.returns-clause-least
returns-clause-least c =
    c.least.ensures ∙ ap (λ (polled : Polled Pass). polled.ring.least) c.polled_pass.ensures
    ∙ ap (λ (pass : Pass). pass.least)
    (pass_is c.args.room c.args.stalls.now c.args.pace.now c.args.arrivals.now c.args.end)

pub returns-clause-some : goal.returns-clause-some
returns-clause-some c =
    let some = least_some c.args.room c.args.stalls.now c.args.pace.now c.args.arrivals.now c.args.end in
    let is = c.least.ensures ∙ ap (λ (polled : Polled Pass). polled.ring.least) c.polled_pass.ensures
    ∙ ap (λ (pass : Pass). pass.least)
    (pass_is c.args.room c.args.stalls.now c.args.pace.now c.args.arrivals.now c.args.end) in
    omega (arith, some, is)

pub returns-clause-threshold : goal.returns-clause-threshold
returns-clause-threshold c = λ blocks happenings same some.
    let is = c.least.ensures ∙ ap (λ (polled : Polled Pass). polled.ring.least) c.polled_pass.ensures
    ∙ ap (λ (pass : Pass). pass.least)
    (pass_is c.args.room c.args.stalls.now c.args.pace.now c.args.arrivals.now c.args.end) in
    subst (λ (least : ℕ). NeverFreezes (record { room = c.args.room; blocks = blocks; tov = c.args.pace.now.tov }) happenings
    ↔ (least ≤ blocks)) (sym is)
    (never_polled c.args.room blocks c.args.stalls.now c.args.pace.now c.args.arrivals.now c.args.end happenings same some)
