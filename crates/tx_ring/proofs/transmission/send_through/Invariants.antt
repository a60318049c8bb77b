use Rattle.std.proofs.Common.{take}
use Rattle.tx_ring.proofs.Runs.{Carries}
use Rattle.tx_ring.specs.Rings.{room_of}
use Rattle.tx_ring.specs.Transmission.{requests_of}
use Rattle.tx_ring.proofs.transmission.send_through.Given as goal

-- the frames so far were given to the run
abbrev pub invariant-loop-frame : goal.invariant-loop-frame
invariant-loop-frame l =
    Carries l.fn.shape l.fn.skip_bad (requests_of (room_of l.fn.shape) (take l.frame-index l.frame-items)) l.run
