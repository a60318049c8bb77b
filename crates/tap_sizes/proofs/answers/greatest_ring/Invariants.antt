-- The greatest of the rings so far, with those that are left, is that of all.
use Rattle.std.proofs.Common.{◌≡◌, drop}
use Rattle.tap_sizes.specs.inside.Passes.{greatest_ring}
use Rattle.tap_sizes.proofs.answers.greatest_ring.Given as goal

abbrev pub invariant-loop-ring : goal.invariant-loop-ring
invariant-loop-ring l =
    greatest_ring l.found (drop l.ring-index l.rings) ≡ greatest_ring l.initial.found l.rings
