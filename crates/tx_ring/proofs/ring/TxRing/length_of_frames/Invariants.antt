use Rattle.std.proofs.Common.{◌≡◌, ◌+◌, length, drop}
use Rattle.tx_ring.specs.Outgoing.{frames_in}
use Rattle.tx_ring.specs.Rings.{room_of}
use Rattle.tx_ring.proofs.ring.TxRing.length_of_frames.Given as goal

-- the frames so far have these bytes, and those that follow have the others
abbrev pub invariant-loop-place : goal.invariant-loop-place
invariant-loop-place l =
    let room = room_of l.self.shape in
    l.length + length (frames_in room (drop l.place l.self.requests)) ≡ length (frames_in room l.self.requests)
