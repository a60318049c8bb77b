use Rattle.std.proofs.Common.{◌≡◌, ◌≤◌, ◌∙◌, get_or, subst, sym, arith}
use Rattle.member_turns.specs.Seats.{Lock, Seat, moment_of, own_of}
use Rattle.cpu_feeders.proofs.timer.tick_members.Goals as goal

pub tick_turn-requires-clause-later : goal.tick_turn-requires-clause-later
tick_turn-requires-clause-later g c =
    let lock = c.index-members-at.result in
    let seat = c.index_mut.result.now in
    let at = c.loop-at.at in
    let count = c.requires.timers.count in
    let there = c.loop-at-test.true in
    let seat_is : seat ≡ get_or c.args.member_seats.now.items at seat =
    c.index_mut.ensures.value ∙ c.loop-at.invariant.rest at seat (omega arith) in
    subst (λ (l : Lock). moment_of (own_of l seat) ≤ c.args.ms) (sym c.index-members-at.is)
    (subst (λ (s : Seat). moment_of (own_of (get_or c.args.members.now at lock) s) ≤ c.args.ms) (sym seat_is)
    (c.requires.later at lock seat (omega (arith, count, there))))
