use Rattle.std.proofs.Common.{◌∙◌, ◌++◌, List, ap, sym}
use Rattle.std.specs.Prelude.{map}
use Rattle.cpu_feeders.specs.declared.closed_members.Closed.{Closed}
use Rattle.cpu_feeders.proofs.OneMore.{empty, first_items, last_items, next_items}
use Rattle.cpu_feeders.proofs.takers.assemble.Goals as goal

pub loop-closed-init : goal.loop-closed-init
loop-closed-init g c =
    let made = c.in_ok-workers.ensures in
    let workers = c.in_ok-workers.workers in
    let rest = c.into_iter-closed-iterator.result.rest.items in
    let all = c.args.members.items in
    let same = c.into_iter-closed-iterator.ensures.into_iter_gives.0 in
    record {
      cpus = made.cpus;
      sources = made.sources;
      notes = first_items (λ (it : Closed g.row.T.Denot). it.notes) workers.notes.items rest all made.notes same;
      takers = first_items (λ (it : Closed g.row.T.Denot). it.taker) workers.takers.items rest all made.takers same;
      rings = first_items (λ (it : Closed g.row.T.Denot). it.ring) workers.rings.items rest all made.rings same;
      seats = ap (λ (xs : List (Closed g.row.T.Denot)). c.args.seats.now.items
          ++ map (λ (it : Closed g.row.T.Denot). it.seat) xs) same;
    }

pub loop-closed-preserved : goal.loop-closed-preserved
loop-closed-preserved g c =
    let inv = c.loop-closed.invariant in
    let old = c.loop-closed.workers in
    let now = c.add_member.new.workers in
    let rest = c.loop-closed.closed-iterator.rest.items in
    let after = c.next.new.self.rest.items in
    let one = c.in-Some.closed in
    let next = c.in-Some.ensures.steps.0 in
    let added = c.in_ok-add_member.ensures in
    record {
      cpus = added.cpus ∙ inv.cpus;
      sources = added.sources ∙ inv.sources;
      notes = next_items (λ (it : Closed g.row.T.Denot). it.notes) old.notes.items now.notes.items _ rest after one next
          added.notes inv.notes;
      takers = next_items (λ (it : Closed g.row.T.Denot). it.taker) old.takers.items now.takers.items _ rest after one next
          added.takers inv.takers;
      rings = next_items (λ (it : Closed g.row.T.Denot). it.ring) old.rings.items now.rings.items _ rest after one next
          added.rings inv.rings;
      seats = next_items (λ (it : Closed g.row.T.Denot). it.seat) c.loop-closed.seats.items c.add_member.new.seats.items _ rest
          after one next added.seats inv.seats;
    }

pub returns : goal.returns
returns g c =
    let inv = c.loop-closed.invariant in
    let workers = c.loop-closed.workers in
    let rest = c.loop-closed.closed-iterator.rest in
    let none = empty rest.items (sym rest.ok.0 ∙ c.in-None.ensures.steps.0) in
    record {
      cpus = inv.cpus;
      sources = inv.sources;
      notes = last_items (λ (it : Closed g.row.T.Denot). it.notes) workers.notes.items _ rest.items none inv.notes;
      takers = last_items (λ (it : Closed g.row.T.Denot). it.taker) workers.takers.items _ rest.items none inv.takers;
      rings = last_items (λ (it : Closed g.row.T.Denot). it.ring) workers.rings.items _ rest.items none inv.rings;
      seats = last_items (λ (it : Closed g.row.T.Denot). it.seat) c.loop-closed.seats.items _ rest.items none inv.seats;
    }
