use Rattle.std.proofs.Common.{◌≡◌, ◌++◌, List, length}
use Rattle.cpu_feeders.specs.inside.Closings.{AllAtEnd, AllClosedWith}
use Rattle.cpu_feeders.specs.declared.closed_members.Closed.{Closed}
use Rattle.cpu_feeders.proofs.closed_members.close_group.Given as goal

abbrev pub invariant-loop-walker : goal.invariant-loop-walker
invariant-loop-walker g l = record {
  members_left : length l.members.items ≡ length l.walker-iterator.rest.items;
  member_seats_left : length l.member_seats.items ≡ length l.walker-iterator.rest.items;
  at_end : AllAtEnd g.T.Taker.base g.T.Taker.taken l.members.items l.member_seats.items l.walker-iterator.rest.items;
  closed : (more : List (Closed g.row.T.Denot))
      → AllClosedWith g.T.Taker.base g.T.Taker.taken l.members.items l.member_seats.items l.walker-iterator.rest.items more
      → AllClosedWith g.T.Taker.base g.T.Taker.taken l.fn.members.items l.fn.member_seats.items l.fn.walkers.items
      (l.all.items ++ more);
}
