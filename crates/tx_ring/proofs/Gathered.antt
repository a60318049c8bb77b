-- The frames that a send takes, one after another.
use Rattle.std.proofs.Common.{◌≡◌, ℕ, suc, ◌+◌, ◌-◌, ◌*◌, ◌/◌, ◌^◌, ◌<◌, ◌≤◌, Bool, false, true, List, [], ◌∷◌, ◌++◌, length}
use Rattle.std.proofs.Common.{drop, replicate, Option, None, Some, Result, Ok, Err, IfOk, true≢false, refl, sym, ap, subst, ◌∙◌}
use Rattle.std.proofs.Common.{arith}
use Rattle.std.proofs.lemmas.Bool.Decides.{nat_tests}
use Rattle.std.proofs.lemmas.List.{append-nil, append_assoc, drop-drop, length-append, length-drop, length-replicate}
use Rattle.std.proofs.lemmas.List.{length-take-le}
use Rattle.std.proofs.Math.ListN.{drop_of_length-le}
use Rattle.std.proofs.Math.Nat.{div-add-mod, mul_assoc, mul_comm, mul-le-mul}
use Rattle.std.proofs.Math.Seq.{drop-append_seam}
use Rattle.tp_layout.specs.Requests.{IsShape}
use Rattle.tp_layout.specs.declared.requests.RingRequest.{RingRequest}
use Rattle.tx_ring.specs.KeptSlots.{Keeps, requests_in, state_in}
use Rattle.tx_ring.specs.Outgoing.{HasFrom, frames_in}
use Rattle.tx_ring.specs.Rings.{TxState, room_of}
use Rattle.tx_ring.specs.Sends.{frame_of, front_of, is_good, request_at}
use Rattle.tx_ring.specs.Slots.{Request, SlotState}
use Rattle.tx_ring.proofs.Turns.{length-requests_in}

-- the next frame lies in the piece
pub lies_in : (all : Option (List ℕ)) (piece frame rest : List ℕ) (from : ℕ) → all ≡ Some piece
    → HasFrom all from (frame ++ rest)
    → 0 < length frame → from + length frame ≤ length piece
lies_in None piece frame rest from is has some = cc
lies_in (Some other) piece frame rest from is has some =
    let same : other ≡ piece = cc in
    let behind = sym (length-drop from other) ∙ ap length has.0 ∙ length-append frame rest in
    let size = ap length same in
    omega (arith, behind, size)

-- after it comes the rest
pub moved_on : (all : Option (List ℕ)) (frame rest : List ℕ) (from : ℕ) → HasFrom all from (frame ++ rest)
    → HasFrom all (from + length frame) rest
moved_on None frame rest from has = tt
moved_on (Some piece) frame rest from has =
    (sym (drop-drop (length frame) from piece) ∙ ap (drop (length frame)) has.0 ∙ drop-append_seam frame rest, has.1)

-- a frame has as many bytes as its request says
pub length-frame : (request : Request) → length (frame_of request) ≡ request.length
length-frame request =
    let zeros = length-replicate {A = ℕ} request.length 0 in
    let all = length-append request.bytes (replicate request.length 0) in
    length-take-le request.length (request.bytes ++ replicate request.length 0) (omega (arith, zeros, all))

-- a good request fits
good_fits : (room : ℕ) (request : Request) → is_good room request ≡ true → request.length ≤ room
good_fits room request good =
    grind (arith, nat_tests)

-- the frames of requests whose first one is good, and of those whose first one is bad
pub good_next : (room : ℕ) (requests : List Request) → is_good room (front_of requests) ≡ true
    → frames_in room requests ≡ frame_of (front_of requests) ++ frames_in room (drop 1 requests)
good_next room [] good = absurd (true≢false (sym good))
good_next room (request ∷ requests) good = rw good refl

pub bad_next : (room : ℕ) (requests : List Request) → is_good room (front_of requests) ≡ false
    → frames_in room requests ≡ frames_in room (drop 1 requests)
bad_next room [] bad = refl
bad_next room (request ∷ requests) bad = rw bad refl

-- the frames from a place on, by whether the request there is good
good_there : (room place : ℕ) (requests : List Request) → is_good room (request_at place requests) ≡ true
    → frames_in room (drop place requests) ≡ frame_of (request_at place requests) ++ frames_in room (drop (place + 1) requests)
good_there room place requests good =
    good_next room (drop place requests) good
    ∙ ap (λ (left : List Request). frame_of (request_at place requests) ++ frames_in room left) (drop-drop 1 place requests)

bad_there : (room place : ℕ) (requests : List Request) → is_good room (request_at place requests) ≡ false
    → frames_in room (drop place requests) ≡ frames_in room (drop (place + 1) requests)
bad_there room place requests bad =
    bad_next room (drop place requests) bad ∙ ap (frames_in room) (drop-drop 1 place requests)

-- the frames of requests that are gathered one after another
pub gathered_good : (room place : ℕ) (requests : List Request) (bytes all : List ℕ)
    → is_good room (request_at place requests) ≡ true
    → bytes ++ frames_in room (drop place requests) ≡ all
    → (bytes ++ frame_of (request_at place requests)) ++ frames_in room (drop (place + 1) requests) ≡ all
gathered_good room place requests bytes all good so_far =
    append_assoc bytes (frame_of (request_at place requests)) (frames_in room (drop (place + 1) requests))
    ∙ ap (λ (rest : List ℕ). bytes ++ rest) (sym (good_there room place requests good))
    ∙ so_far

pub gathered_bad : (room place : ℕ) (requests : List Request) (bytes all : List ℕ)
    → is_good room (request_at place requests) ≡ false
    → bytes ++ frames_in room (drop place requests) ≡ all
    → bytes ++ frames_in room (drop (place + 1) requests) ≡ all
gathered_bad room place requests bytes all bad so_far =
    ap (λ (rest : List ℕ). bytes ++ rest) (sym (bad_there room place requests bad)) ∙ so_far

-- the bytes of frames that are counted one after another
pub counted_good : (room place : ℕ) (requests : List Request) (count all : ℕ) → is_good room (request_at place requests) ≡ true
    → count + length (frames_in room (drop place requests)) ≡ all
    → (count + length (frame_of (request_at place requests))) + length (frames_in room (drop (place + 1) requests)) ≡ all
counted_good room place requests count all good so_far =
    let there = ap length (good_there room place requests good)
    ∙ length-append (frame_of (request_at place requests)) (frames_in room (drop (place + 1) requests)) in
    omega (arith, there, so_far)

pub counted_bad : (room place : ℕ) (requests : List Request) (count all : ℕ) → is_good room (request_at place requests) ≡ false
    → count + length (frames_in room (drop place requests)) ≡ all
    → count + length (frames_in room (drop (place + 1) requests)) ≡ all
counted_bad room place requests count all bad so_far =
    ap (λ (rest : List ℕ). count + length rest) (sym (bad_there room place requests bad)) ∙ so_far

-- at the end all are counted
pub counted_all : (room place : ℕ) (requests : List Request) (count all : ℕ) → length requests ≤ place
    → count + length (frames_in room (drop place requests)) ≡ all → count ≡ all
counted_all room place requests count all end so_far =
    let none = ap (λ (left : List Request). length (frames_in room left)) (drop_of_length-le requests end) in
    omega (arith, none, so_far)

-- at the end all are gathered
pub gathered_all : (room place : ℕ) (requests : List Request) (bytes all : List ℕ) → length requests ≤ place
    → bytes ++ frames_in room (drop place requests) ≡ all → bytes ≡ all
gathered_all room place requests bytes all end so_far =
    sym (append-nil bytes) ∙ ap (λ (left : List Request). bytes ++ frames_in room left)
    (sym (drop_of_length-le requests end)) ∙ so_far

-- each frame fits after the header of a slot
pub frames_few : (room : ℕ) (requests : List Request) → length (frames_in room requests) ≤ length requests * room
frames_few room [] = omega arith
frames_few room (request ∷ requests) =
    let rest = frames_few room requests in
    let one : suc (length requests) * room ≡ room + length requests * room = omega arith in
    grind (arith, length-append (frame_of request) (frames_in room requests), length-frame request, good_fits room request)

-- the frames of all slots of a ring are few bytes
pub frames_short : (shape : RingRequest) (requests : List Request) → IsShape shape → length requests ≤ shape.frame_nr
    → length (frames_in (room_of shape) requests) < 2 ^ 32
frames_short shape requests sound few =
    let all = sound.all in
    let size = shape.frame_size in
    let in_block = shape.block_size / size in
    let each = frames_few (room_of shape) requests in
    let slots : length requests * room_of shape ≤ shape.frame_nr * size = mul-le-mul few (omega arith) in
    let block = div-add-mod shape.block_size size in
    let blocks : size * in_block * shape.block_nr ≤ shape.block_size * shape.block_nr =
    mul-le-mul (omega (arith, block)) (omega arith) in
    let same : shape.frame_nr * size ≡ size * in_block * shape.block_nr =
    ap (λ (n : ℕ). n * size) (sym sound.frames) ∙ mul_comm (in_block * shape.block_nr) size
    ∙ sym (mul_assoc size in_block shape.block_nr) in
    omega (arith, all, each, slots, blocks, same)

-- those of a ring's requests, which are in its slots
pub requests_short : {shape : RingRequest} {skip : Bool} {slots : List SlotState} {placed taken : ℕ} {stopped : Option ℕ}
    {ring : TxState} → Keeps (state_in shape skip slots placed taken stopped) slots taken
    → state_in shape skip slots placed taken stopped ≡ ring → IsShape shape
    → length (frames_in (room_of ring.shape) ring.requests) < 2 ^ 32
requests_short {shape} {slots} {placed} {taken} keeps view sound =
    let order = keeps.order in
    let few = keeps.few in
    let count = length-requests_in shape.frame_nr slots taken (placed - taken) in
    subst (λ (r : TxState). length (frames_in (room_of r.shape) r.requests) < 2 ^ 32) view
    (frames_short shape (requests_in shape.frame_nr slots taken (placed - taken)) sound (omega arith))

-- a piece of few bytes
pub short_if_ok : {E : Type 0} → (result : Result (List ℕ) E) (bytes : List ℕ) → IfOk result (λ piece. piece ≡ bytes)
    → length bytes < 2 ^ 32
    → IfOk result (λ piece. length piece < 2 ^ 32)
short_if_ok (Ok piece) bytes is short = rw is short
short_if_ok (Err error) bytes is short = tt
