use Rattle.std.proofs.Common.{◌≡◌, ℕ, List, [], length, refl, sym, ap, ◌∙◌, subst}
use Rattle.std.specs.Prelude.{map, replicate}
use Rattle.std.specs.List.{AllByRecursion}
use Rattle.std.proofs.lemmas.List.{length-replicate}
use Rattle.cpu_feeders.specs.declared.feeder.Feeder.{Feeder}
use Rattle.cpu_feeders.specs.declared.timer.Timer.{Timer}
use Rattle.cpu_feeders.proofs.FedFeeders.{feed_in, seat_in, member_seats_in}
use Rattle.cpu_feeders.proofs.OneMore.{empty, first_items, last_items, next_all, next_items, next_rows, then_rows}
use Rattle.cpu_feeders.proofs.MemberSeatLists.{with_each_long}
use Rattle.cpu_feeders.proofs.ended_workers.gather.Goals as goal

pub loop-feeder-init : goal.loop-feeder-init
loop-feeder-init g c =
    let made = c.in_ok-left.ensures in
    let left = c.in_ok-left.left in
    let rest = c.into_iter-feeder-iterator.result.rest.items in
    let all = c.args.feeders.items in
    let same = c.into_iter-feeder-iterator.ensures.into_iter_gives.0 in
    record {
      cpus = first_items feed_in left.cpus.items rest all made.cpus same;
      seats = first_items seat_in left.seats.items rest all made.seats same;
      count = ap length made.member_seats ∙ length-replicate c.args.members [];
      as_many =
          subst (λ (fs : List (Feeder g.row.S.Denot)). AllByRecursion
          (λ (f : Feeder g.row.S.Denot). length f.member_seats.items ≡ c.args.members) fs)
          (sym same) c.requires.feeders;
      member_seats = rw (made.member_seats, same) refl;
    }

pub add-requires : goal.add-requires
add-requires g c =
    let inv = c.loop-feeder.invariant in
    let here = next_all (λ (f : Feeder g.row.S.Denot). length f.member_seats.items ≡ c.args.members) _ _ c.in-Some.feeder
    c.in-Some.ensures.steps.0 inv.as_many in
    record { count = here.0 ∙ sym inv.count }

pub loop-feeder-preserved : goal.loop-feeder-preserved
loop-feeder-preserved g c =
    let inv = c.loop-feeder.invariant in
    let old = c.loop-feeder.left in
    let now = c.add.new.self in
    let rest = c.loop-feeder.feeder-iterator.rest.items in
    let after = c.next.new.self.rest.items in
    let next = c.in-Some.ensures.steps.0 in
    let added = c.in_ok-add.ensures in
    record {
      cpus = next_items feed_in old.cpus.items now.cpus.items _ rest after c.in-Some.feeder next added.cpus inv.cpus;
      seats = next_items seat_in old.seats.items now.seats.items _ rest after c.in-Some.feeder next added.seats inv.seats;
      count = ap length added.member_seats ∙ with_each_long old.member_seats.items
          c.in-Some.feeder.member_seats.items ∙ inv.count;
      as_many =
          (next_all (λ (f : Feeder g.row.S.Denot). length f.member_seats.items ≡ c.args.members) rest after c.in-Some.feeder
          next inv.as_many).1;
      member_seats = next_rows member_seats_in _ old.member_seats.items now.member_seats.items rest after c.in-Some.feeder next
          added.member_seats inv.member_seats;
    }

pub add_timers-requires : goal.add_timers-requires
add_timers-requires g c = record {
  timers = subst (λ (n : ℕ). AllByRecursion (λ (t : Timer). length t.member_seats.items ≡ n) c.args.timers.items)
      (sym c.loop-feeder.invariant.count) c.requires.timers;
}

pub returns : goal.returns
returns g c =
    let inv = c.loop-feeder.invariant in
    let rest = c.loop-feeder.feeder-iterator.rest in
    let none = empty rest.items (sym rest.ok.0 ∙ c.in-None.ensures.steps.0) in
    record {
      cpus = last_items feed_in c.loop-feeder.left.cpus.items _ rest.items none inv.cpus;
      seats = last_items seat_in c.loop-feeder.left.seats.items _ rest.items none inv.seats;
      member_seats = c.in_ok-add_timers.ensures
          ∙ then_rows member_seats_in (replicate c.args.members []) c.loop-feeder.left.member_seats.items
          (map member_seats_in c.args.feeders.items)
          (map (λ (t : Timer). t.member_seats.items) c.args.timers.items) rest.items none inv.member_seats;
    }
