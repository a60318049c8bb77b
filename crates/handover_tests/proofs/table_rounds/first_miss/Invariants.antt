use Rattle.std.proofs.Common.{◌≡◌, ◌≤◌, false, length}
use Rattle.handover_tests.proofs.table_rounds.first_miss.Given as goal

-- at most one block was filled in each round, and none is in hand
abbrev pub invariant-loop-round : goal.invariant-loop-round
invariant-loop-round l = record {
  filled : l.feeder.given ≡ length l.feeder.retired;
  few : l.feeder.given ≤ l.round;
  hand : l.walker.in_hand ≡ false;
}
