use Rattle.std.proofs.Common.{◌≡◌, ◌++◌, take}
use Rattle.cpu_feeders.specs.Walks.{taken_of}
use Rattle.member_turns.specs.Closings.{contents_of}
use Rattle.cpu_feeders.proofs.closed_members.read_pending.Given as goal

abbrev pub invariant-loop-at : goal.invariant-loop-at
invariant-loop-at g l = record {
  base : g.T.Taker.base l.taker ≡ g.T.Taker.base l.fn.taker;
  read : g.T.Taker.taken l.taker
      ≡ g.T.Taker.taken l.fn.taker ++ taken_of (g.T.Taker.base l.fn.taker) (contents_of (take l.at l.pending.blocks));
}
