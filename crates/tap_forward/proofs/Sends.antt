-- A send of a ring whose requests are all good.
use Rattle.std.proofs.Common.{◌≡◌, ℕ, zero, suc, Bool, true, List, [], ◌∷◌, ◌++◌, length, take, drop, Ok, Err, sym, ap, ◌∙◌}
use Rattle.std.proofs.Common.{subst, append_assoc, append-nil}
use Rattle.std.specs.Prelude.{if◌then◌else◌}
use Rattle.std.specs.List.{AllByRecursion}
use Rattle.std.proofs.lemmas.List.{take-append-drop}
use Rattle.std.proofs.Math.Seq.{drop-length}
use Rattle.frame_view.specs.declared.frames.Packet.{Packet}
use Rattle.tx_ring.specs.Rings.{TxState, room_of}
use Rattle.tx_ring.specs.Sends.{IsBrokenOff, UnlessMemory, after_send, after_taking, answer_with, counts_of, good_front}
use Rattle.tx_ring.specs.Sends.{is_good, packets_of, packets_sent, send_answer, stop_at_front, taken_by}
use Rattle.tx_ring.specs.Slots.{Request}
use Rattle.tx_ring.specs.declared.error.SendError.{SendError}
use Rattle.tx_ring.specs.declared.error.SendError.TheVariants.{BadSlot, Memory}
use Rattle.tx_ring.proofs.Splits.{packets_append}
use Rattle.tx_ring.proofs.Takings.{AllGood, good_all}
use Rattle.tap_forward.specs.Senders.{IsGoing, WasGiven}
use Rattle.tap_forward.specs.declared.sender.Sender.{Sender}

all_good : (room : ℕ) (requests : List Request) → AllByRecursion (λ request. is_good room request ≡ true) requests
    → AllGood room requests
all_good room [] all = tt
all_good room (request ∷ requests) all = (all.0, all_good room requests all.1)

all_taken : (ring : TxState) → IsGoing ring → taken_by ring ≡ ring.requests
all_taken ring going =
    ap (λ (skip : Bool). if skip then ring.requests else good_front (room_of ring.shape) ring.requests) going.strict
    ∙ good_all (room_of ring.shape) ring.requests (all_good (room_of ring.shape) ring.requests going.good)

left_is : (ring : TxState) → IsGoing ring → after_taking (length (taken_by ring)) ring ≡ record ring { requests = [] }
left_is ring going =
    ap (λ (taken : List Request). after_taking (length taken) ring) (all_taken ring going)
    ∙ ap (λ (requests : List Request). record ring { requests = requests }) (drop-length ring.requests)

-- it takes all requests
pub emptied : (ring : TxState) → IsGoing ring → after_send ring ≡ record ring { requests = [] }
emptied ring going = ap (λ (left : TxState). stop_at_front left left.requests) (left_is ring going)

-- it reports no bad slot
pub none_bad : (ring : TxState) (slot : ℕ) → IsGoing ring → Err (BadSlot slot) ≡ send_answer ring → ⊥
none_bad ring slot going told =
    let fine : send_answer ring ≡ Ok (counts_of ring) =
    ap (λ (left : TxState). answer_with left (counts_of ring) left.requests) (left_is ring going) in
    let wrong : Err (BadSlot slot) ≡ Ok (counts_of ring) = told ∙ fine in
    cc

never : {slot : ℕ} → Memory ≡ BadSlot slot → ⊥
never is = cc

pub none_bad_at : (ring : TxState) (error : SendError) (slot : ℕ) → IsGoing ring → error ≡ BadSlot slot
    → UnlessMemory (Err error) (Err error ≡ send_answer ring) → ⊥
none_bad_at ring (BadSlot bad) slot going is told = none_bad ring bad going told
none_bad_at ring Memory slot going is told = never is

-- the ring goes on
pub still_going : (ring new : TxState) → IsGoing ring → new ≡ after_send ring → IsGoing new
still_going ring new going is =
    subst IsGoing (sym (is ∙ emptied ring going))
    (record { some = going.some; strict = going.strict; going = going.going; good = tt })

-- what it sent was requested
pub sends : (old new : Sender) (given : List Packet) → IsGoing old.ring → new.ring ≡ after_send old.ring
    → new.sent ≡ old.sent ++ packets_sent old.ring
    → new.skipped ≡ old.skipped → WasGiven given old → WasGiven given new
sends old new given going ring sent skipped was =
    let room = room_of old.ring.shape in
    let empty : new.ring ≡ record old.ring { requests = [] } = ring ∙ emptied old.ring going in
    let all : packets_sent old.ring ≡ packets_of room old.ring.requests = ap (packets_of room) (all_taken old.ring going) in
    record {
      sent = rw (empty, sent, all) (append-nil (old.sent ++ packets_of room old.ring.requests) ∙ was.sent);
      skipped = rw (empty, skipped) was.skipped;
      few = rw empty was.few;
    }

-- ---- a send that was interrupted

dropped : {A : Type 0} (P : A → Type 0) (count : ℕ) (xs : List A) → AllByRecursion P xs → AllByRecursion P (drop count xs)
dropped P zero xs all = all
dropped P (suc count) [] all = tt
dropped P (suc count) (x ∷ xs) all = dropped P count xs all.1

pub broken_going : (count : ℕ) (old new : TxState) (before after : List Packet) → IsGoing old
    → IsBrokenOff count old new before after → IsGoing new
broken_going count old new before after going broken =
    subst IsGoing (sym broken.ring) (record {
      some = going.some;
      strict = going.strict;
      going = going.going;
      good = dropped (λ (request : Request). is_good (room_of old.shape) request ≡ true) count old.requests going.good;
    })

pub broken_sends : (count : ℕ) (old new : Sender) (given : List Packet) → IsBrokenOff count old.ring new.ring old.sent new.sent
    → new.skipped ≡ old.skipped → WasGiven given old → WasGiven given new
broken_sends count old new given broken skipped was =
    let room = room_of old.ring.shape in
    let requests = old.ring.requests in
    let ring = broken.ring in
    let sent = broken.packets in
    record {
      sent = rw (ring, sent)
          (append_assoc old.sent (packets_of room (take count requests)) (packets_of room (drop count requests))
          ∙ ap (λ (ps : List Packet). old.sent ++ ps)
          (sym (packets_append room (take count requests) (drop count requests))
          ∙ ap (packets_of room) (take-append-drop count requests))
          ∙ was.sent);
      skipped = rw (ring, skipped) was.skipped;
      few = rw ring was.few;
    }
