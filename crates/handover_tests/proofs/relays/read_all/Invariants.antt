use Rattle.std.proofs.Common.{◌≡◌, false}
use Rattle.handover_tests.proofs.relays.read_all.Given as goal

abbrev pub invariant-loop : goal.invariant-loop
invariant-loop g l =
    ((goal.iterator-loop g).can_next l.iterator')
    × ((goal.iterator-loop g).is_finite l.iterator')
    × (l.walker.id ≡ l.initial.walker.id)
    × (l.walker.in_hand ≡ false)
