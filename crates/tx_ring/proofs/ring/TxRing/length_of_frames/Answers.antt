use Rattle.std.proofs.Common.{◌≡◌, true, false, length, sym, ap, arith}
use Rattle.tx_ring.specs.Outgoing.{frames_in}
use Rattle.tx_ring.specs.Rings.{room_of}
use Rattle.tx_ring.specs.Sends.{is_good, request_at}
use Rattle.tx_ring.proofs.Gathered.{counted_all, counted_bad, counted_good, requests_short}
use Rattle.tx_ring.proofs.ring.TxRing.length_of_frames.Goals as goal
use Rattle.tx_ring.proofs.ring.TxRing.length_of_frames.Goals.{in-Some, in_default}

pub overflow_add-length : goal.overflow_add-length
overflow_add-length c =
    let ring = c.args.self.now in
    let room = room_of ring.shape in
    let short = requests_short c.self.invariant c.self.view_is c.a_shape_is_sound.ensures.sound in
    let more = counted_good room c.loop-place.place ring.requests c.loop-place.length (length (frames_in room ring.requests))
    (sym c.in-Some.ensures.good) c.loop-place.invariant in
    let frame = ap length c.in-Some.ensures.value in
    omega (arith, short, more, frame)

pub loop-place-preserved : goal.loop-place-preserved
loop-place-preserved c =
    let ring = c.args.self.now in
    let room = room_of ring.shape in
    let all = length (frames_in room ring.requests) in
    elim c.match-good_frame.branch [
      | in-Some w ↦
          let good : is_good room (request_at c.loop-place.place ring.requests) ≡ true = sym w.in-Some.ensures.good in
          rw (w.length-is, w.in-Some.ensures.value)
          (counted_good room c.loop-place.place ring.requests c.loop-place.length all good c.loop-place.invariant)
      | in_default w ↦
          let bad : is_good room (request_at c.loop-place.place ring.requests) ≡ false = sym w.in_default.ensures.good in
          rw w.length-is (counted_bad room c.loop-place.place ring.requests c.loop-place.length all bad c.loop-place.invariant)
    ]

pub returns-clause-value : goal.returns-clause-value
returns-clause-value c =
    let ring = c.args.self.now in
    counted_all (room_of ring.shape) c.loop-place.place ring.requests c.loop-place.length _
    (omega (arith, c.requested-place-end.ensures)) c.loop-place.invariant

pub returns-clause-short : goal.returns-clause-short
returns-clause-short c =
    let ring = c.args.self.now in
    let whole = counted_all (room_of ring.shape) c.loop-place.place ring.requests c.loop-place.length _
    (omega (arith, c.requested-place-end.ensures)) c.loop-place.invariant in
    rw whole (requests_short c.self.invariant c.self.view_is c.a_shape_is_sound.ensures.sound)
