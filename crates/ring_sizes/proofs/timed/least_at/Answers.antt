use Rattle.std.proofs.Common.{ℕ, ◌≤◌, ◌↔◌, subst, sym, ap, ◌∙◌, arith}
use Rattle.ring_events.specs.Happenings.{NeverFreezes}
use Rattle.ring_sizes.specs.Passes.{first_pass}
use Rattle.ring_sizes.specs.Schedules.{schedule_to}
use Rattle.ring_sizes.specs.declared.sizes.Pass.{Pass}
use Rattle.ring_sizes.proofs.Never.{all_grow, threshold_at}
use Rattle.ring_sizes.proofs.timed.least_at.Goals as goal

pub returns-clause-some : goal.returns-clause-some
returns-clause-some c =
    let least = c.least.ensures ∙ ap (λ (pass : Pass). pass.least) c.timed_pass.ensures in
    let more = all_grow c.args.room c.args.pace.now.tov (schedule_to c.args.stalls.now c.args.pace.now c.args.arrivals.now
    c.args.end) (first_pass c.args.pace.now.tov) in
    omega (arith, least, more)

pub returns-clause-least : goal.returns-clause-least
returns-clause-least c = c.least.ensures ∙ ap (λ (pass : Pass). pass.least) c.timed_pass.ensures

pub returns-clause-threshold : goal.returns-clause-threshold
returns-clause-threshold c = λ blocks happenings same some.
    subst (λ (least : ℕ). NeverFreezes (record { room = c.args.room; blocks = blocks; tov = c.args.pace.now.tov }) happenings
    ↔ (least ≤ blocks)) (sym c.least.ensures)
    (threshold_at c.args.room c.args.pace.now.tov blocks happenings _ c.timed_pass.result same c.timed_pass.ensures some)
