use Rattle.std.proofs.Common.{◌≡◌, drop}
use Rattle.tx_ring.specs.Transmission.{first_long}
use Rattle.tx_ring.proofs.transmission.first_long.Given as goal

-- none of the frames so far is longer
abbrev pub invariant-loop-frame : goal.invariant-loop-frame
invariant-loop-frame l = first_long l.room l.frames ≡ first_long l.room (drop l.frame-index l.frames)
