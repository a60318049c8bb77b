use Rattle.tx_ring.specs.Outgoing.{Holds, frames_in}
use Rattle.tx_ring.specs.Rings.{room_of}
use Rattle.tx_ring.proofs.Sends.{Going}
use Rattle.tx_ring.proofs.ring.TxRing.send.Given as goal

-- the first n requests were taken, and the frames of the others are still to go
abbrev pub invariant-loop : goal.invariant-loop
invariant-loop l =
    Going l.initial.self l.self l.fn.out l.out l.counts l.counter
    × Holds l.frames (frames_in (room_of l.self.shape) l.self.requests)
