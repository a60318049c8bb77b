-- The stalls so far.
use Rattle.std.proofs.Common.{◌≡◌, take}
use Rattle.pace_laws.specs.Paces.{stalls_of}
use Rattle.tap_sizes.proofs.reader_tries.stalls_of.Given as goal

abbrev pub invariant-loop-stall : goal.invariant-loop-stall
invariant-loop-stall l = l.stalls.items ≡ stalls_of (take l.stall-index l.reader.stalls)
