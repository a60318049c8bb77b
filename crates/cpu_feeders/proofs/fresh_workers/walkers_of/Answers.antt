use Rattle.std.proofs.Common.{◌≡◌, ◌∙◌, false, List, length, refl, sym, subst, arith}
use Rattle.std.specs.List.{AllByRecursion}
use Rattle.ticket_dealer.specs.Seats.{IsFreshOf, SeatValue}
use Rattle.history.proofs.Lists.{all_but}
use Rattle.cpu_feeders.specs.declared.walker.ReaderThread.{ReaderThread}
use Rattle.cpu_feeders.proofs.FreshThreads.{end_in, taker_in}
use Rattle.cpu_feeders.proofs.Numbered.{numbered_more}
use Rattle.cpu_feeders.proofs.OneMore.{all_more, as_many, as_many_at_end, both_shorter, empty, made_all, next_item, some_left}
use Rattle.cpu_feeders.proofs.fresh_workers.walkers_of.Goals as goal

pub loop-taker-preserved : goal.loop-taker-preserved
loop-taker-preserved g c =
    let inv = c.loop-taker.invariant in
    let made = c.loop-taker.walkers.items in
    let now = c.push.new.self.items in
    let rest = c.loop-taker.taker-iterator.rest.items in
    let after = c.next.new.self.rest.items in
    let next = c.in-Some.ensures.steps.0 in
    let end = c.first_of.ensures in
    let seat = c.last_of.ensures in
    let pushed = c.in_ok-push.ensures.items in
    record {
      left = as_many _ made now rest after c.in-Some.taker _ next pushed inv.left;
      ends_left = both_shorter c.loop-taker.ends.items c.first_of.new.list.items rest after c.first_of.result c.in-Some.taker
          end next inv.ends_left;
      count = as_many_at_end _ made now c.loop-taker.seats.items c.last_of.new.list.items c.last_of.result _ seat
          pushed inv.count;
      takers = next_item taker_in made now rest after _ _ c.in-Some.taker next pushed refl inv.takers;
      ends = next_item end_in made now c.loop-taker.ends.items c.first_of.new.list.items _ _ c.first_of.result end pushed
          refl inv.ends;
      members = numbered_more made now _ pushed inv.members (c.len-in-loop-taker.ensures ∙ c.loop-taker.walkers.ok.0);
      fresh = all_more (λ (w : ReaderThread g.row.T.Denot). (w.released ≡ 0) × (w.full ≡ false)) made now _ pushed
          inv.fresh (refl, refl);
      seats = λ dealer own.
          let both = inv.seats dealer own in
          let parts = all_but (IsFreshOf dealer) c.last_of.new.list.items c.last_of.result
          (subst (λ (ss : List SeatValue). AllByRecursion (IsFreshOf dealer) ss) seat both.0) in
          (parts.0, all_more (λ (w : ReaderThread g.row.T.Denot). IsFreshOf dealer w.seat) made now _ pushed both.1 parts.1);
    }

pub first_of-requires : goal.first_of-requires
first_of-requires g c = record {
  some = some_left c.loop-taker.ends.items c.loop-taker.taker-iterator.rest.items c.next.new.self.rest.items c.in-Some.taker
      c.in-Some.ensures.steps.0
      c.loop-taker.invariant.ends_left;
}

pub returns-clause-takers : goal.returns-clause-takers
returns-clause-takers g c =
    let rest = c.loop-taker.taker-iterator.rest in
    made_all taker_in c.loop-taker.walkers.items rest.items _ (empty rest.items (sym rest.ok.0 ∙ c.in-None.ensures.steps.0))
    c.loop-taker.invariant.takers

pub returns-clause-ends : goal.returns-clause-ends
returns-clause-ends g c =
    let rest = c.loop-taker.taker-iterator.rest in
    let count : length rest.items ≡ 0 = sym rest.ok.0 ∙ c.in-None.ensures.steps.0 in
    let ends = c.loop-taker.invariant.ends_left in
    made_all end_in c.loop-taker.walkers.items c.loop-taker.ends.items _
    (empty c.loop-taker.ends.items (omega (arith, ends, count)))
    c.loop-taker.invariant.ends

pub returns-clause-members : goal.returns-clause-members
returns-clause-members g c = c.loop-taker.invariant.members

pub returns-clause-fresh : goal.returns-clause-fresh
returns-clause-fresh g c = c.loop-taker.invariant.fresh

pub returns-clause-count : goal.returns-clause-count
returns-clause-count g c = c.loop-taker.invariant.count

pub returns-clause-seats : goal.returns-clause-seats
returns-clause-seats g c = c.loop-taker.invariant.seats
