use Rattle.std.proofs.Common.{◌<◌, ◌∙◌, ℕ, List, length, get_or, take, subst, sym, arith}
use Rattle.capture_reports.specs.Timers.{AreTimed}
use Rattle.cpu_feeders.proofs.TimerTicks.{are_small, item, not_before, take_few, timed_more}
use Rattle.cpu_feeders.proofs.timer.tick_all.Goals as goal
use Rattle.std.proofs.lemmas.List.{take_more}

pub tick_members-requires-clause-timers : goal.tick_members-requires-clause-timers
tick_members-requires-clause-timers g c = record {
  count = c.loop-ms.invariant.count;
  ready = λ member lock seat inside. (c.loop-ms.invariant.each member lock seat inside).ready;
}

pub tick_members-requires-clause-few : goal.tick_members-requires-clause-few
tick_members-requires-clause-few g c = λ member seat inside.
    let count = c.loop-ms.invariant.count in
    let lock = item c.args.members.now member (omega (arith, count, inside)) in
    let entered = (c.loop-ms.invariant.each member lock seat inside).entered in
    let few = c.requires.moments.few in
    let short = take_few c.loop-ms.ms-index c.args.moments.now in
    omega (arith, entered, few, short)

pub tick_members-requires-clause-later : goal.tick_members-requires-clause-later
tick_members-requires-clause-later g c = λ member lock seat inside.
    not_before c.args.moments.now c.loop-ms.ms-index 0 (get_or c.args.members.now member lock)
    (get_or c.loop-ms.member_seats.items member seat)
    c.requires.moments.rising c.loop-ms-test.true (c.loop-ms.invariant.each member lock seat inside)

pub tick_members-requires-clause-small : goal.tick_members-requires-clause-small
tick_members-requires-clause-small g c =
    let small = are_small 0 c.args.moments.now c.loop-ms.ms-index 0 c.requires.moments.rising c.loop-ms-test.true in
    omega (arith, small)

pub loop-ms-preserved : goal.loop-ms-preserved
loop-ms-preserved g c =
    let at = c.loop-ms.ms-index in
    let moments = c.args.moments.now in
    let old = c.loop-ms.member_seats.items in
    let now = c.tick_members.new.member_seats.items in
    let ticked = c.in_ok-tick_members.ensures in
    subst (λ (told : List ℕ). AreTimed told c.args.members.now now) (sym (take_more moments at 0 c.loop-ms-test.true)) (record {
      count = ticked.count ∙ c.loop-ms.invariant.count;
      each = λ member lock seat inside.
          let within : member < length old = let count = ticked.count in omega (arith, count, inside) in
          timed_more (take at moments) (get_or moments at 0) (get_or c.args.members.now member lock) (get_or old member seat)
          (get_or now member seat)
          (c.loop-ms.invariant.each member lock seat within) (ticked.each member lock seat within);
    })
