use Rattle.std.proofs.Common.{◌≡◌, ◌∙◌, length, ap}
use Rattle.cpu_feeders.specs.declared.timer.Timer.{Timer}
use Rattle.cpu_feeders.proofs.OneMore.{next_all, next_rows}
use Rattle.cpu_feeders.proofs.MemberSeatLists.{with_each_long}
use Rattle.cpu_feeders.proofs.ended_workers.add_timers.Goals as goal

pub loop-timer-preserved : goal.loop-timer-preserved
loop-timer-preserved c =
    let inv = c.loop-timer.invariant in
    let old = c.loop-timer.member_seats.items in
    let now = c.add_to_each.new.lists.items in
    let rest = c.loop-timer.timer-iterator.rest.items in
    let after = c.next.new.self.rest.items in
    let next = c.in-Some.ensures.steps.0 in
    let added = c.in_ok-add_to_each.ensures in
    record {
      count = ap length added ∙ with_each_long old c.in-Some.timer.member_seats.items ∙ inv.count;
      as_many =
          (next_all (λ (t : Timer). length t.member_seats.items ≡ length c.args.member_seats.now.items) rest after
          c.in-Some.timer next inv.as_many).1;
      member_seats = next_rows (λ (t : Timer). t.member_seats.items) _ old now rest after c.in-Some.timer next added
          inv.member_seats;
    }
