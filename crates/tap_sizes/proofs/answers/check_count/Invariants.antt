-- What was counted so far, with what is left to count, is all.
use Rattle.std.proofs.Common.{◌≡◌, ◌+◌, ◌<◌, ◌^◌, drop, length}
use Rattle.std.specs.List.{sum_by}
use Rattle.tap_sizes.proofs.answers.check_count.Given as goal

abbrev pub invariant-loop-arrivals : goal.invariant-loop-arrivals
invariant-loop-arrivals l =
    (l.count + sum_by (λ arrivals. length arrivals) (drop l.arrivals-index l.members)
    ≡ sum_by (λ arrivals. length arrivals) l.members)
    × (l.count < 2 ^ 60)
