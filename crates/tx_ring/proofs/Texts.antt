-- What the bytes of a slot say, and how a write changes them.
use Rattle.std.proofs.Common.{◌≡◌, ℕ, zero, suc, ◌+◌, ◌-◌, ◌≤◌, List, [], ◌∷◌, ◌++◌, length, take, drop, replicate, refl}
use Rattle.std.proofs.Common.{sym, ap, subst, ◌∙◌, inl, inr, arith}
use Rattle.std.proofs.lemmas.Bool.{cases_lt}
use Rattle.std.proofs.lemmas.List.{drop-drop, drop-replicate, length-append, length-replicate, append-nil}
use Rattle.std.proofs.lemmas.List.{replicate-append-replicate, take-replicate}
use Rattle.std.proofs.Math.ListN.{drop_of_length-le}
use Rattle.std.proofs.Math.Seq.{drop-append_seam, take-append_seam, take-length}
use Rattle.byteorder.specs.Endian.{little_bytes}
use Rattle.byteorder.specs.Numbers.{little_number-reads_back}
use Rattle.tp_layout.specs.Rows.{number_at}
use Rattle.tx_ring.specs.Slots.{IsSlot, IsSound, SlotState, empty_slot, header_text, slot_in, slot_text}

-- there are as many bytes as the slot says
pub length-slot_text : (slot : SlotState) → 48 + length slot.request.bytes ≤ slot.size → length (slot_text slot) ≡ slot.size
unfolding slot_text header_text
length-slot_text slot fits =
    let given = slot.request.bytes in
    let rest = length-append given (replicate (slot.size - (48 + length given)) 0) in
    let zeros = length-replicate {A = ℕ} (slot.size - (48 + length given)) 0 in
    omega (arith, rest, zeros)

-- the bytes of a slot say what it is
pub told : (slot : SlotState) → IsSound slot → slot_in (slot_text slot) ≡ slot
unfolding slot_text header_text number_at
told slot sound =
    let text = slot_text slot in
    let size = length-slot_text slot sound.fits in
    let next_offset = little_number-reads_back 4 slot.request.next_offset (drop 4 text) sound.next_offset in
    let given = little_number-reads_back 4 (length slot.request.bytes) (drop 16 text) sound.given in
    let asked = little_number-reads_back 4 slot.request.length (drop 20 text) sound.asked in
    let status = little_number-reads_back 4 slot.status (drop 24 text) sound.status in
    let bytes = take-append_seam slot.request.bytes (replicate (slot.size - (48 + length slot.request.bytes)) 0) in
    rw (size, next_offset, given, asked, status, bytes) refl

-- bytes that were written as those of a slot are its bytes
pub written : (bytes : List ℕ) (slot : SlotState) → IsSound slot → bytes ≡ slot_text slot → IsSlot bytes
written bytes slot sound text =
    let said : slot_in bytes ≡ slot = ap slot_in text ∙ told slot sound in
    record { text = text ∙ ap slot_text (sym said); sound = subst IsSound (sym said) sound }

-- zeros are the bytes of a slot that nothing was written into
pub zeros_empty : (size : ℕ) → 48 ≤ size → replicate size 0 ≡ slot_text (empty_slot size)
unfolding slot_text header_text
zeros_empty size fits =
    let all : 48 + (size - 48) ≡ size = omega arith in
    ap (λ (n : ℕ). replicate n 0) (sym all) ∙ sym (replicate-append-replicate 48 (size - 48) 0)

-- only the status is written
pub marked : (bytes : List ℕ) (slot : SlotState) (status : ℕ) → bytes ≡ slot_text slot
    → take 20 bytes ++ (little_bytes 4 status ++ drop 24 bytes) ≡ slot_text (record slot { status = status })
unfolding slot_text header_text
marked bytes slot status text = rw text refl

-- how many zeros follow some bytes makes no difference to the first n
pub padded : (bytes : List ℕ) (count n m : ℕ) → count ≤ length bytes + n → count ≤ length bytes + m
    → take count (bytes ++ replicate n 0) ≡ take count (bytes ++ replicate m 0)
padded [] count n m fits also = take-replicate count n 0 (omega arith) ∙ sym (take-replicate count m 0 (omega arith))
padded (byte ∷ bytes) zero n m fits also = refl
padded (byte ∷ bytes) (suc count) n m fits also =
    ap (λ (rest : List ℕ). byte ∷ rest) (padded bytes count n m (omega arith) (omega arith))

-- a piece of memory that was borrowed whole has what was written into it
pub lent : (count : ℕ) (new old : List ℕ) → length new ≡ count → length old ≡ count
    → take count (new ++ drop (length new) old) ≡ new
lent count new old whole same =
    let none : drop (length new) old ≡ [] = drop_of_length-le old (omega arith) in
    rw (none, append-nil) (ap (λ (n : ℕ). take n new) (sym whole) ∙ take-length new)

-- the first bytes after the header are those that were given, and zeros
pub data_of : (slot : SlotState) (count : ℕ) → IsSound slot → 48 + count ≤ slot.size
    → take count (drop 48 (slot_text slot)) ≡ take count (slot.request.bytes ++ replicate count 0)
unfolding slot_text header_text
data_of slot count sound fits =
    padded slot.request.bytes count (slot.size - (48 + length slot.request.bytes)) count
    (let f = sound.fits in omega arith) (omega arith)

-- after the bytes that were given, which the slot counts, there are zeros
pub zeros_after : (slot : List ℕ) → IsSlot slot
    → (48 + number_at 4 12 slot ≤ length slot)
    × (drop (number_at 4 12 slot) (drop 48 slot) ≡ replicate (length slot - (48 + number_at 4 12 slot)) 0)
unfolding slot_text header_text number_at
zeros_after slot is =
    let state = slot_in slot in
    let given = state.request.bytes in
    let sound = is.sound in
    let count : number_at 4 12 slot ≡ length given =
    ap (number_at 4 12) is.text ∙ little_number-reads_back 4 (length given) (drop 16 (slot_text state)) sound.given in
    let rest : drop (length given) (drop 48 slot) ≡ replicate (length slot - (48 + length given)) 0 =
    ap (λ (bytes : List ℕ). drop (length given) (drop 48 bytes)) is.text
    ∙ drop-append_seam given (replicate (length slot - (48 + length given)) 0) in
    rw count (sound.fits, rest)

-- zeros over the rest of some earlier bytes, after which there are zeros, are zeros to the end
pub stale_zeros : (place : List ℕ) (given earlier : ℕ) → given ≤ length place → earlier ≤ length place
    → drop earlier place ≡ replicate (length place - earlier) 0
    → replicate (earlier - given) 0 ++ drop (earlier - given) (drop given place) ≡ replicate (length place - given) 0
stale_zeros place given earlier fits within zeros =
    elim (cases_lt given earlier) [
      | inl less ↦
          let sum : given + (earlier - given) ≡ earlier = omega arith in
          let all : earlier - given + (length place - earlier) ≡ length place - given = omega arith in
          rw (drop-drop (earlier - given) given place, sum, zeros)
          (replicate-append-replicate {A = ℕ} (earlier - given) (length place - earlier) 0
          ∙ ap (λ (n : ℕ). replicate {A = ℕ} n 0) all)
      | inr more ↦
          let none : earlier - given ≡ 0 = omega arith in
          let sum : earlier + (given - earlier) ≡ given = omega arith in
          let left : length place - earlier - (given - earlier) ≡ length place - given = omega arith in
          rw none
          (ap (λ (n : ℕ). drop n place) (sym sum) ∙ sym (drop-drop (given - earlier) earlier place)
          ∙ ap (drop (given - earlier)) zeros
          ∙ drop-replicate {X = ℕ} (given - earlier) (length place - earlier) 0 ∙ ap (λ (n : ℕ). replicate {A = ℕ} n 0) left)
    ]
