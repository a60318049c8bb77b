use Rattle.std.proofs.Common.{◌≡◌, ◌+◌, [], List, length, length-append, rules, refl, ap, ◌∙◌, subst, arith}
use Rattle.std.specs.List.{AllByRecursion}
use Rattle.cpu_feeders.proofs.OneMore.{all_more, next_all, next_item}
use Rattle.ticket_dealer.specs.Seats.{IsFreshOf, SeatValue}
use Rattle.block_pool.specs.Workers.{IsFreshWorker, IsFreshPassOf}
use Rattle.block_pool.specs.declared.workers.PoolWorker.{PoolWorker}
use Rattle.history.proofs.Lists.{all_but}
use Rattle.block_pool.proofs.fresh_workers.pool_workers_of.Goals as goal

pub loop-pass-preserved : goal.loop-pass-preserved
loop-pass-preserved c =
    let inv = c.loop-pass.invariant in
    let next = c.in-Some.ensures.steps.0 in
    let seat = c.in-Some-pop.ensures.items in
    let pushed = c.in_ok-push.ensures.items in
    let next_long = ap length next in
    let seat_long : length c.loop-pass.seats.items ≡ length c.pop.new.self.items + 1 = ap length seat ∙ length-append _ _ in
    let pushed_long : length c.push.new.self.items ≡ length c.loop-pass.pool_workers.items + 1 =
    ap length pushed ∙ length-append _ _ in
    let left = inv.left in
    let seats = inv.seats in
    let nothing : c.new.result.items ≡ [] = search rules in
    record {
      left = omega (arith, left, next_long, pushed_long);
      seats = omega (arith, seats, next_long, seat_long);
      passes = next_item (λ (d : PoolWorker). d.pass) _ _ _ _ _ _ c.in-Some.pass next pushed refl inv.passes;
      fresh = λ queue dealer fresh_passes fresh_seats.
          let both = inv.fresh queue dealer fresh_passes fresh_seats in
          let passes = next_all (IsFreshPassOf queue) _ _ c.in-Some.pass next both.0 in
          let parts = all_but (IsFreshOf dealer) c.pop.new.self.items c.in-Some-pop.seat
          (subst (λ (ss : List SeatValue). AllByRecursion (IsFreshOf dealer) ss) seat both.1) in (
            passes.1,
            parts.0,
            all_more (IsFreshWorker queue dealer) _ _ _ pushed both.2
                (record { pass = passes.0; fetches = refl; none = nothing; full = refl; seat = parts.1 }),
          );
    }

pub returns-clause-fresh : goal.returns-clause-fresh
returns-clause-fresh c = λ queue dealer fresh_passes fresh_seats.
    (c.loop-pass.invariant.fresh queue dealer fresh_passes fresh_seats).2
