use Rattle.std.proofs.Common.{◌≡◌, ◌++◌, drop}
use Rattle.tx_ring.specs.Outgoing.{frames_in}
use Rattle.tx_ring.specs.Rings.{room_of}
use Rattle.tx_ring.proofs.ring.TxRing.piece_of_frames.Given as goal

-- the bytes so far come before those of the frames that follow
abbrev pub invariant-loop-place : goal.invariant-loop-place
invariant-loop-place l =
    let room = room_of l.self.shape in
    l.bytes.items ++ frames_in room (drop l.place l.self.requests) ≡ frames_in room l.self.requests
