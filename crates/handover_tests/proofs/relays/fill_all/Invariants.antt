use Rattle.std.proofs.Common.{◌≡◌, ◌≤◌, length}
use Rattle.handover_tests.proofs.relays.fill_all.Given as goal

abbrev pub invariant-loop : goal.invariant-loop
invariant-loop g l =
    ((goal.iterator-loop g).can_next l.iterator')
    × ((goal.iterator-loop g).is_finite l.iterator')
    × (l.feeder.id ≡ l.initial.feeder.id)
    × (l.feeder.given ≡ length l.feeder.retired)
    × (l.feeder.given ≤ l.next)
    × (l.next ≤ length l.letters)
