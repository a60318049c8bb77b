use Rattle.std.proofs.Common.{◌≡◌, true, false, sym, arith}
use Rattle.tx_ring.specs.Outgoing.{frames_in}
use Rattle.tx_ring.specs.Rings.{room_of}
use Rattle.tx_ring.specs.Sends.{is_good, request_at}
use Rattle.tx_ring.proofs.Gathered.{gathered_all, gathered_bad, gathered_good, short_if_ok}
use Rattle.tx_ring.proofs.ring.TxRing.piece_of_frames.Goals as goal
use Rattle.tx_ring.proofs.ring.TxRing.piece_of_frames.Goals.{in-Some+in_ok-extend_from_slice, in_default}

pub loop-place-preserved : goal.loop-place-preserved
loop-place-preserved c =
    let ring = c.args.self.now in
    let room = room_of ring.shape in
    let all = frames_in room ring.requests in
    elim c.match-good_frame.branch [
      | in-Some+in_ok-extend_from_slice w ↦
          let good : is_good room (request_at c.loop-place.place ring.requests) ≡ true = sym w.in-Some.ensures.good in
          rw (w.bytes-is, w.in_ok-extend_from_slice.ensures.items, w.in-Some.ensures.value)
          (gathered_good room c.loop-place.place ring.requests c.loop-place.bytes.items all good c.loop-place.invariant)
      | in_default w ↦
          let bad : is_good room (request_at c.loop-place.place ring.requests) ≡ false = sym w.in_default.ensures.good in
          rw w.bytes-is (gathered_bad room c.loop-place.place ring.requests c.loop-place.bytes.items all bad
          c.loop-place.invariant)
    ]

pub returns-clause-short : goal.returns-clause-short
returns-clause-short c =
    let ring = c.args.self.now in
    let whole = gathered_all (room_of ring.shape) c.loop-place.place ring.requests c.loop-place.bytes.items _
    (omega (arith, c.requested-place-end.ensures)) c.loop-place.invariant in
    short_if_ok c.new.result c.loop-place.bytes.items c.new.ensures
    (rw whole (omega (arith, c.length_of_frames.ensures.value, c.length_of_frames.ensures.short)))
