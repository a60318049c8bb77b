use Rattle.std.proofs.Common.{sym, ap, ◌∙◌, arith}
use Rattle.tx_ring.specs.Sends.{frame_of}
use Rattle.tx_ring.proofs.Moves.{count_of, request_there}
use Rattle.tx_ring.proofs.ring.TxRing.good_frame.Goals as goal
use Rattle.tx_ring.proofs.ring.TxRing.good_frame.Goals.{else-next_offset-eq0-via-then-next_offset-eq0+then-asked-ge-LINK_HEADER+else-asked-room}
use Rattle.tx_ring.proofs.ring.TxRing.good_frame.Goals.{else-next_offset-eq0-via-then-next_offset-eq0+else-asked-ge-LINK_HEADER}
use Rattle.tx_ring.proofs.ring.TxRing.good_frame.Goals.{else-next_offset-eq0-via-else-next_offset-eq0}

pub overflow_sub-self-inside : goal.overflow_sub-self-inside
overflow_sub-self-inside c =
    let count = count_of c.self.invariant c.self.view_is in
    omega (arith, count, c.requires, c.from.ensures, c.requested.ensures)

pub returns-then-asked-room-clause-good : goal.returns-then-asked-room-clause-good
returns-then-asked-room-clause-good c =
    let request = request_there c.self.invariant c.self.view_is c.requires c.requested.ensures c.from.ensures
    c.slot_of-at.ensures.value in
    rw (sym request) (grind (arith, c.next_offset.ensures, c.asked-asked.ensures, c.room.ensures.value))

pub returns-then-asked-room-clause-value : goal.returns-then-asked-room-clause-value
returns-then-asked-room-clause-value c =
    let request = request_there c.self.invariant c.self.view_is c.requires c.requested.ensures c.from.ensures
    c.slot_of-at.ensures.value in
    c.frame.ensures.value ∙ ap frame_of request

pub returns-else-next_offset-eq0-clause-good : goal.returns-else-next_offset-eq0-clause-good
returns-else-next_offset-eq0-clause-good c =
    let request = request_there c.self.invariant c.self.view_is c.requires c.requested.ensures c.from.ensures
    c.slot_of-at.ensures.value in
    rw (sym request) (elim c.else-next_offset-eq0.branch [
      | else-next_offset-eq0-via-then-next_offset-eq0+then-asked-ge-LINK_HEADER+else-asked-room w ↦
          grind (arith, c.next_offset.ensures, c.asked-asked.ensures, w.room.ensures.value, w.if-asked-room.false)
      | else-next_offset-eq0-via-then-next_offset-eq0+else-asked-ge-LINK_HEADER w ↦
          grind (arith, c.asked-asked.ensures, w.if-asked-ge-LINK_HEADER.false)
      | else-next_offset-eq0-via-else-next_offset-eq0 w ↦ grind (arith, c.next_offset.ensures, w.if-next_offset-eq0.false)
    ])
