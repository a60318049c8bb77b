use Rattle.std.proofs.Common.{ℕ, ◌↔◌, ◌≤◌, subst, sym, arith}
use Rattle.ring_events.specs.Happenings.{NeverFreezes}
use Rattle.ring_sizes.specs.Phases.{begun}
use Rattle.ring_sizes.specs.declared.tries.Reached.{Reached}
use Rattle.ring_sizes.proofs.Worsts.{least_some, never_at}
use Rattle.ring_sizes.proofs.phases.least_of_all.Goals as goal

pub returns-clause-some : goal.returns-clause-some
returns-clause-some g c =
    let worst : Reached = c.extremes_of_all.result.most in
    let some = least_some c.args.room c.args.trial.now.stalls.now (begun c.args.trial.now.pace worst.phase worst.from)
    c.args.arrivals.now c.args.trial.now.end in
    omega (arith, some, c.extremes_of_all.ensures.most.reached)

pub returns-clause-enough : goal.returns-clause-enough
returns-clause-enough g c = λ phase from blocks happenings early inside same few.
    let pace = begun c.args.trial.now.pace phase from in
    let some = least_some c.args.room c.args.trial.now.stalls.now pace c.args.arrivals.now c.args.trial.now.end in
    let most = c.extremes_of_all.ensures.most.best phase from early inside in
    (never_at c.args.room blocks c.args.trial.now.stalls.now pace c.args.arrivals.now c.args.trial.now.end happenings same
    (omega (arith, some, most, few))).1 (omega (arith, most, few))

pub returns-clause-reached : goal.returns-clause-reached
returns-clause-reached g c = λ blocks happenings same some.
    let worst : Reached = c.extremes_of_all.result.most in
    let pace = begun c.args.trial.now.pace worst.phase worst.from in
    subst (λ (least : ℕ). NeverFreezes (record { room = c.args.room; blocks = blocks; tov = c.args.trial.now.pace.tov })
    happenings ↔ (least ≤ blocks)) (sym c.extremes_of_all.ensures.most.reached)
    (never_at c.args.room blocks c.args.trial.now.stalls.now pace c.args.arrivals.now c.args.trial.now.end happenings same some)
