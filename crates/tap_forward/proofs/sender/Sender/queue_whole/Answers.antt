use Rattle.std.proofs.Common.{◌∙◌, ◌≡◌, Err, List, ℕ, ◌<◌, length, refl, sym, subst}
use Rattle.tx_ring.specs.Rings.{place_answer, room_of}
use Rattle.tx_ring.specs.declared.error.TxError.TheVariants.{TooLong}
use Rattle.tap_forward.proofs.Givings.{is_long, queues, skips}
use Rattle.tap_forward.proofs.Places.{fits_ok, placed, refused, too_long}
use Rattle.tap_forward.proofs.sender.Sender.queue_whole.Goals as goal

pub returns-in-Ok-clause-given : goal.returns-in-Ok-clause-given
returns-in-Ok-clause-given c = λ given packet frame was.
    let ring = c.args.self.now.ring in
    let bytes = c.args.frame.now in
    let ok = sym c.in-Ok.ensures.answer in
    queues c.args.self.now _ given packet bytes frame (c.queue.ensures.placed ∙ placed ring bytes _ ok) refl refl
    c.requires.whole
    (fits_ok ring bytes _ c.requires.going.going ok) was

pub returns-in-Err-TooLong-clause-given : goal.returns-in-Err-TooLong-clause-given
returns-in-Err-TooLong-clause-given c = λ given packet frame was.
    let ring = c.args.self.now.ring in
    let bytes = c.args.frame.now in
    let err : place_answer ring bytes ≡ Err TooLong = sym (rw c.in-Err-TooLong.field-0-is at c.in-Err-TooLong.ensures.answer) in
    skips c.args.self.now _ given packet (c.queue.ensures.placed ∙ refused ring bytes TooLong err) refl refl
    (is_long (room_of ring.shape) packet
    (subst (λ (b : List ℕ). room_of ring.shape < length b) (sym frame) (too_long ring bytes c.requires.going.going err)))
    was
