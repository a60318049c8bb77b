-- Slots in their bytes, one after another.
use Rattle.std.proofs.Common.{◌≡◌, ℕ, zero, suc, ◌+◌, ◌-◌, ◌*◌, ◌^◌, ◌<◌, ◌≤◌, List, [], ◌∷◌, ◌++◌, length, take, drop}
use Rattle.std.proofs.Common.{replicate, set, refl, sym, ap, subst, ◌∙◌, inl, inr, arith}
use Rattle.std.proofs.lemmas.Bool.{cases_lt}
use Rattle.std.proofs.lemmas.List.{append_assoc, drop-append-le, drop-drop, drop-replicate, drop_at, get_or-append_right}
use Rattle.std.proofs.lemmas.List.{get_or-replicate, get_or_append_left, length-append, length-drop, length-replicate}
use Rattle.std.proofs.lemmas.List.{length-take-le, nil_from_length, replicate-append-replicate, set-append_left, take-append-le}
use Rattle.std.proofs.lemmas.List.{take-replicate, take_at}
use Rattle.std.proofs.Math.Nat.{mul-le-mul_left, mul-le-mul_right}
use Rattle.std.proofs.Math.Seq.{take-add}
use Rattle.tp_layout.specs.Rows.{number_at}
use Rattle.tx_ring.specs.Slots.{IsSlot, IsSound, SlotState, empty_slot, put_slot, slot_at, slot_in, slot_text}
use Rattle.tx_ring.specs.SlotsInside.{AreSlots, IsKept, slots_by, slots_in}
use Rattle.tx_ring.proofs.Texts.{length-slot_text, lent as lent_back, told, zeros_empty}
use Rattle.tx_ring.proofs.Texts.{written as written_text}

pub length-slots_in : (size count : ℕ) (bytes : List ℕ) → length (slots_in size count bytes) ≡ count
length-slots_in size zero bytes = refl
length-slots_in size (suc count) bytes = ap suc (length-slots_in size count (drop size bytes))

pub length-slots_by : (size count written : ℕ) (bytes : List ℕ) → written ≤ count
    → length (slots_by size count written bytes) ≡ count
length-slots_by size count written bytes few =
    let first = length-slots_in size written bytes in
    let rest = length-replicate (count - written) (empty_slot size) in
    let both = length-append (slots_in size written bytes) (replicate (count - written) (empty_slot size)) in
    omega (arith, first, rest, both)

-- a place among all slots is below their number
pub less_of : {size count written room at : ℕ} {bytes : List ℕ} {slots : List SlotState} → IsKept size count written room bytes
    → slots_by size count written bytes ≡ slots → at < length slots → at < count
less_of {size} {count} {written} {bytes} kept view within =
    let all = length-slots_by size count written bytes kept.few in
    let same = ap length view in
    omega (arith, all, same, within)

-- the bytes of a slot that was written are there
pub within_bytes : {size count written room : ℕ} {bytes : List ℕ} (at : ℕ) → IsKept size count written room bytes
    → at < written → at * size + size ≤ length bytes
within_bytes {size} {written} at kept less =
    let all : suc at * size ≤ written * size = mul-le-mul_right size (omega arith) in
    let whole = kept.whole in
    omega (arith, all, whole)

-- the bytes of the slots after the first one
after_first : (size at : ℕ) (bytes : List ℕ) → drop (suc at * size) bytes ≡ drop (at * size) (drop size bytes)
after_first size at bytes =
    let sum : suc at * size ≡ size + at * size = omega arith in
    ap (λ (n : ℕ). drop n bytes) sum ∙ sym (drop-drop (at * size) size bytes)

at_first : (size : ℕ) (bytes : List ℕ) → drop (0 * size) bytes ≡ bytes
at_first size bytes =
    let none : 0 * size ≡ 0 = omega arith in
    rw none refl

-- a slot that was written, in its bytes
slot_in_bytes : (size written at : ℕ) (bytes : List ℕ) → at < written
    → slot_at (slots_in size written bytes) at ≡ slot_in (take size (drop (at * size) bytes))
slot_in_bytes size zero at bytes less = absurd (omega arith)
slot_in_bytes size (suc written) zero bytes less = rw (at_first size bytes) refl
slot_in_bytes size (suc written) (suc at) bytes less =
    slot_in_bytes size written at (drop size bytes) (omega arith)
    ∙ ap (λ (rest : List ℕ). slot_in (take size rest)) (sym (after_first size at bytes))

pub written_slot : (size count written at : ℕ) (bytes : List ℕ) → at < written
    → slot_at (slots_by size count written bytes) at ≡ slot_in (take size (drop (at * size) bytes))
written_slot size count written at bytes less =
    let few = length-slots_in size written bytes in
    get_or_append_left (slots_in size written bytes) (replicate (count - written) (empty_slot size)) (empty_slot 0) at
    (omega (arith, few))
    ∙ slot_in_bytes size written at bytes less

-- its bytes are those of a slot
is_slot_by : (size written at : ℕ) (bytes : List ℕ) → AreSlots size written bytes → at < written
    → IsSlot (take size (drop (at * size) bytes))
is_slot_by size zero at bytes each less = absurd (omega arith)
is_slot_by size (suc written) zero bytes each less = rw (at_first size bytes) each.0
is_slot_by size (suc written) (suc at) bytes each less =
    subst (λ (rest : List ℕ). IsSlot (take size rest)) (sym (after_first size at bytes))
    (is_slot_by size written at (drop size bytes) each.1 (omega arith))

pub is_slot : {size count written room : ℕ} {bytes : List ℕ} (at : ℕ) → IsKept size count written room bytes → at < written
    → IsSlot (take size (drop (at * size) bytes))
is_slot at kept less = is_slot_by _ _ at _ kept.each less

-- a slot that wasn't written
pub unwritten_slot : (size count written at : ℕ) (bytes : List ℕ) → written ≤ at → at < count
    → slot_at (slots_by size count written bytes) at ≡ empty_slot size
unwritten_slot size count written at bytes past less =
    get_or-append_right (slots_in size written bytes) (replicate (count - written) (empty_slot size)) written at (empty_slot 0)
    (length-slots_in size written bytes) past
    ∙ get_or-replicate (count - written) (at - written) (empty_slot size) (empty_slot 0) (omega arith)

-- zeros are slots that nothing was written into
empty_sound : (size : ℕ) → 48 ≤ size → IsSound (empty_slot size)
empty_sound size least = grind arith

zeros_slot : (size : ℕ) → 48 ≤ size → slot_in (replicate size 0) ≡ empty_slot size
zeros_slot size least = ap slot_in (zeros_empty size least) ∙ told (empty_slot size) (empty_sound size least)

zeros_first : (size more : ℕ) → take {A = ℕ} size (replicate (suc more * size) 0) ≡ replicate size 0
zeros_first size more = take-replicate size (suc more * size) 0 (omega arith)

zeros_rest : (size more : ℕ) → drop {A = ℕ} size (replicate (suc more * size) 0) ≡ replicate (more * size) 0
zeros_rest size more =
    let rest : suc more * size - size ≡ more * size = omega arith in
    drop-replicate {X = ℕ} size (suc more * size) 0 ∙ ap (λ (n : ℕ). replicate {A = ℕ} n 0) rest

zeros_in : (size more : ℕ) → 48 ≤ size → slots_in size more (replicate (more * size) 0) ≡ replicate more (empty_slot size)
zeros_in size zero least = refl
zeros_in size (suc more) least =
    rw (zeros_first size more, zeros_rest size more, zeros_slot size least, zeros_in size more least) refl

zeros_are : (size more : ℕ) → 48 ≤ size → AreSlots size more (replicate (more * size) 0)
zeros_are size zero least =
    let none : 0 * size ≡ 0 = omega arith in
    rw none refl
zeros_are size (suc more) least =
    rw (zeros_first size more, zeros_rest size more) (
      written_text (replicate size 0) (empty_slot size) (empty_sound size least) (zeros_empty size least),
      zeros_are size more least,
    )

-- bytes of slots that are followed by more
more_first : (size count : ℕ) (bytes more : List ℕ) → length bytes ≡ suc count * size
    → take size (bytes ++ more) ≡ take size bytes
more_first size count bytes more whole = take-append-le size bytes more (omega arith)

more_rest : (size count : ℕ) (bytes more : List ℕ) → length bytes ≡ suc count * size
    → drop size (bytes ++ more) ≡ drop size bytes ++ more
more_rest size count bytes more whole = drop-append-le size bytes more (omega arith)

rest_whole : (size count : ℕ) (bytes : List ℕ) → length bytes ≡ suc count * size → length (drop size bytes) ≡ count * size
rest_whole size count bytes whole = let rest = length-drop size bytes in omega (arith, rest)

grown_in : (size written more : ℕ) (bytes : List ℕ) → 48 ≤ size → length bytes ≡ written * size
    → slots_in size (written + more) (bytes ++ replicate (more * size) 0) ≡ slots_in size written bytes
    ++ replicate more (empty_slot size)
grown_in size zero more bytes least whole =
    let none : bytes ≡ [] = nil_from_length bytes (omega arith) in
    let all : 0 + more ≡ more = omega arith in
    rw (none, all) (zeros_in size more least)
grown_in size (suc written) more bytes least whole =
    let next : suc written + more ≡ suc (written + more) = omega arith in
    rw (
      next,
      more_first size written bytes (replicate (more * size) 0) whole,
      more_rest size written bytes (replicate (more * size) 0) whole,
    )
    (ap (λ (rest : List SlotState). slot_in (take size bytes) ∷ rest)
    (grown_in size written more (drop size bytes) least (rest_whole size written bytes whole)))

grown_are : (size written more : ℕ) (bytes : List ℕ) → 48 ≤ size → length bytes ≡ written * size → AreSlots size written bytes
    → AreSlots size (written + more) (bytes ++ replicate (more * size) 0)
grown_are size zero more bytes least whole each =
    let all : 0 + more ≡ more = omega arith in
    rw (each, all) (zeros_are size more least)
grown_are size (suc written) more bytes least whole each =
    let next : suc written + more ≡ suc (written + more) = omega arith in
    rw (
      next,
      more_first size written bytes (replicate (more * size) 0) whole,
      more_rest size written bytes (replicate (more * size) 0) whole,
    )
    (each.0, grown_are size written more (drop size bytes) least (rest_whole size written bytes whole) each.1)

-- the bytes after a slot is written
put_first : (size : ℕ) (bytes slot : List ℕ) → put_slot (0 * size) size bytes slot ≡ slot ++ drop size bytes
put_first size bytes slot =
    let none : 0 * size ≡ 0 = omega arith in
    let past : 0 + size ≡ size = omega arith in
    rw (none, past) refl

put_later : (size at : ℕ) (bytes slot : List ℕ) → put_slot (suc at * size) size bytes slot ≡ take size bytes
    ++ put_slot (at * size) size (drop size bytes) slot
put_later size at bytes slot =
    let sum : suc at * size ≡ size + at * size = omega arith in
    let past : suc at * size + size ≡ size + (at * size + size) = omega arith in
    let front : take (suc at * size) bytes ≡ take size bytes ++ take (at * size) (drop size bytes) =
    ap (λ (n : ℕ). take n bytes) sum ∙ take-add size (at * size) bytes in
    let back : drop (suc at * size + size) bytes ≡ drop (at * size + size) (drop size bytes) =
    ap (λ (n : ℕ). drop n bytes) past ∙ sym (drop-drop (at * size + size) size bytes) in
    rw (front, back) (append_assoc (take size bytes) (take (at * size) (drop size bytes))
    (slot ++ drop (at * size + size) (drop size bytes)))

pub put_in : (size written at : ℕ) (bytes slot : List ℕ) → length bytes ≡ written * size → length slot ≡ size → at < written
    → slots_in size written (put_slot (at * size) size bytes slot) ≡ set (slots_in size written bytes) at (slot_in slot)
put_in size zero at bytes slot whole same less = absurd (omega arith)
put_in size (suc written) zero bytes slot whole same less =
    rw (put_first size bytes slot, take_at slot (drop size bytes) size same, drop_at slot (drop size bytes) size same) refl
put_in size (suc written) (suc at) bytes slot whole same less =
    let first = length-take-le size bytes (omega arith) in
    let rest = put_slot (at * size) size (drop size bytes) slot in
    rw (put_later size at bytes slot, take_at (take size bytes) rest size first, drop_at (take size bytes) rest size first)
    (ap (λ (slots : List SlotState). slot_in (take size bytes) ∷ slots)
    (put_in size written at (drop size bytes) slot (rest_whole size written bytes whole) same (omega arith)))

pub put_are : (size written at : ℕ) (bytes slot : List ℕ) → length bytes ≡ written * size → length slot ≡ size → at < written
    → AreSlots size written bytes → IsSlot slot → AreSlots size written (put_slot (at * size) size bytes slot)
put_are size zero at bytes slot whole same less each is = absurd (omega arith)
put_are size (suc written) zero bytes slot whole same less each is =
    rw (
      put_first size bytes slot,
      take_at slot (drop size bytes) size same,
      drop_at slot (drop size bytes) size same,
    ) (is, each.1)
put_are size (suc written) (suc at) bytes slot whole same less each is =
    let first = length-take-le size bytes (omega arith) in
    let rest = put_slot (at * size) size (drop size bytes) slot in
    rw (put_later size at bytes slot, take_at (take size bytes) rest size first, drop_at (take size bytes) rest size first)
    (each.0, put_are size written at (drop size bytes) slot (rest_whole size written bytes whole) same (omega arith) each.1 is)

pub length-put_slot : (from size : ℕ) (bytes slot : List ℕ) → from + size ≤ length bytes → length slot ≡ size
    → length (put_slot from size bytes slot) ≡ length bytes
length-put_slot from size bytes slot within same =
    let front = length-take-le from bytes (omega arith) in
    let back = length-drop (from + size) bytes in
    let first = length-append (take from bytes) (slot ++ drop (from + size) bytes) in
    let second = length-append slot (drop (from + size) bytes) in
    omega (arith, front, back, first, second)

-- the slots up to one are made zeros, where they weren't written
pub grown : {size count before room more : ℕ} {bytes new : List ℕ} (after : ℕ) → IsKept size count before room bytes
    → before ≤ after → after ≤ count → room ≤ more → new ≡ bytes ++ replicate (after * size - length bytes) 0
    → IsKept size count after more new × (slots_by size count after new ≡ slots_by size count before bytes)
grown {size} {count} {before} {bytes} after kept grows few wide new_is =
    let whole = kept.whole in
    let enough = kept.room_is in
    let others = replicate (count - after) (empty_slot size) in
    let sum : before + (after - before) ≡ after = omega arith in
    let all : after * size ≡ before * size + (after - before) * size = ap (λ (n : ℕ). n * size) (sym sum) ∙ omega arith in
    let zeros : after * size - length bytes ≡ (after - before) * size = omega (arith, all, whole) in
    let both = length-append bytes (replicate ((after - before) * size) 0) in
    let count_of = length-replicate {A = ℕ} ((after - before) * size) 0 in
    let rest : after - before + (count - after) ≡ count - before = omega arith in
    rw (new_is, zeros) (
      record {
        least = kept.least;
        small = kept.small;
        few = few;
        whole = omega (arith, both, count_of, all, whole);
        room_is = omega (arith, enough);
        each = subst (λ (n : ℕ). AreSlots size n (bytes ++ replicate ((after - before) * size) 0)) sum
            (grown_are size before (after - before) bytes kept.least whole kept.each);
      },
      ap (λ (n : ℕ). slots_in size n (bytes ++ replicate ((after - before) * size) 0) ++ others) (sym sum)
          ∙ ap (λ (slots : List SlotState). slots ++ others) (grown_in size before (after - before) bytes kept.least whole)
          ∙ append_assoc (slots_in size before bytes) (replicate (after - before) (empty_slot size)) others
          ∙ ap (λ (slots : List SlotState). slots_in size before bytes ++ slots)
          (replicate-append-replicate (after - before) (count - after) (empty_slot size)
          ∙ ap (λ (n : ℕ). replicate n (empty_slot size)) rest),
    )

-- a slot is written
put_by : {size count written room : ℕ} {bytes : List ℕ} (at : ℕ) (slot : SlotState) → IsKept size count written room bytes
    → at < written → IsSound slot → slot.size ≡ size
    → slots_by size count written (put_slot (at * size) size bytes (slot_text slot))
    ≡ set (slots_by size count written bytes) at slot
put_by {size} {count} {written} {bytes} at slot kept less sound same =
    let whole = length-slot_text slot sound.fits ∙ same in
    let there = length-slots_in size written bytes in
    let others = replicate (count - written) (empty_slot size) in
    ap (λ (slots : List SlotState). slots ++ others)
    (put_in size written at bytes (slot_text slot) kept.whole whole less
    ∙ ap (set (slots_in size written bytes) at) (told slot sound))
    ∙ sym (set-append_left (slots_in size written bytes) others at slot (omega (arith, there)))

put_kept : {size count written room : ℕ} {bytes : List ℕ} (at : ℕ) (slot : SlotState) → IsKept size count written room bytes
    → at < written → IsSound slot → slot.size ≡ size
    → IsKept size count written room (put_slot (at * size) size bytes (slot_text slot))
put_kept {size} {written} {bytes} at slot kept less sound same =
    let whole = length-slot_text slot sound.fits ∙ same in
    let is : IsSlot (slot_text slot) = written_text (slot_text slot) slot sound refl in
    record {
      least = kept.least;
      small = kept.small;
      few = kept.few;
      whole = length-put_slot (at * size) size bytes (slot_text slot) (within_bytes at kept less) whole ∙ kept.whole;
      room_is = kept.room_is;
      each = put_are size written at bytes (slot_text slot) kept.whole whole less kept.each is;
    }

-- the bytes of a slot that was written
pub shown : {size count written room : ℕ} {bytes : List ℕ} (at : ℕ) → IsKept size count written room bytes → at < written
    → take size (drop (at * size) bytes) ≡ slot_text (slot_at (slots_by size count written bytes) at)
shown {size} {count} {written} {bytes} at kept less =
    (is_slot at kept less).text ∙ ap slot_text (sym (written_slot size count written at bytes less))

-- its size is that of all
pub size_there : {size count written room : ℕ} {bytes : List ℕ} {slots : List SlotState} (at : ℕ)
    → IsKept size count written room bytes → slots_by size count written bytes ≡ slots → at < written
    → (slot_at slots at).size ≡ size
size_there {size} {count} {written} {bytes} at kept view below =
    let within = within_bytes at kept below in
    let rest = length-drop (at * size) bytes in
    ap (λ (slots : List SlotState). (slot_at slots at).size) (sym view)
    ∙ ap (λ (slot : SlotState). slot.size) (written_slot size count written at bytes below)
    ∙ length-take-le size (drop (at * size) bytes) (omega (arith, within, rest))

-- each slot is sound
pub each_sound : {size count written room : ℕ} {bytes : List ℕ} {slots : List SlotState} (at : ℕ)
    → IsKept size count written room bytes → slots_by size count written bytes ≡ slots → at < length slots
    → IsSound (slot_at slots at)
each_sound {size} {count} {written} {bytes} at kept view less =
    subst (λ (slots : List SlotState). IsSound (slot_at slots at)) view
    (elim (cases_lt at written) [
      | inl below ↦ subst IsSound (sym (written_slot size count written at bytes below)) (is_slot at kept below).sound
      | inr past ↦ subst IsSound (sym (unwritten_slot size count written at bytes past (less_of kept view less)))
          (empty_sound size kept.least)
    ])

-- one that wasn't written is empty
pub unwritten : {size count written room : ℕ} {bytes : List ℕ} {slots : List SlotState} (at : ℕ)
    → IsKept size count written room bytes → slots_by size count written bytes ≡ slots → written ≤ at → at < length slots
    → slot_at slots at ≡ empty_slot (slot_at slots at).size
unwritten {size} {count} {written} {bytes} {slots} at kept view past less =
    let is : slot_at slots at ≡ empty_slot size =
    ap (λ (slots : List SlotState). slot_at slots at) (sym view)
    ∙ unwritten_slot size count written at bytes past (less_of kept view less) in
    is ∙ ap (λ (slot : SlotState). empty_slot slot.size) (sym is)

-- a number in zeros
zero_number : (place more : ℕ) → number_at 4 place (replicate (place + (4 + more)) 0) ≡ 0
unfolding number_at
zero_number place more =
    let rest : place + (4 + more) - place ≡ suc (suc (suc (suc more))) = omega arith in
    rw (drop-replicate {X = ℕ} place (place + (4 + more)) 0, rest) refl

-- a number in the header of a slot that wasn't written
pub empty_number : (place size : ℕ) → 48 ≤ size → place + 4 ≤ 48 → 0 ≡ number_at 4 place (slot_text (empty_slot size))
empty_number place size least header =
    let sum : place + (4 + (size - (place + 4))) ≡ size = omega arith in
    sym (ap (number_at 4 place) (sym (zeros_empty size least)) ∙ ap (λ (n : ℕ). number_at 4 place (replicate n 0)) (sym sum)
    ∙ zero_number place (size - (place + 4)))

-- the places of slots are numbers of 64 bits
pub places_fit : {size count written room : ℕ} {bytes : List ℕ} (at : ℕ) → IsKept size count written room bytes → at < count
    → (at + 1 < 2 ^ 64) × ((at + 1) * size < 2 ^ 64) × ((at + 1) * size ≤ room)
places_fit {size} {count} at kept less =
    let least = kept.least in
    let small = kept.small in
    let enough = kept.room_is in
    let all : (at + 1) * size ≤ count * size = mul-le-mul_right size (omega arith) in
    let one : (at + 1) * 48 ≤ (at + 1) * size = mul-le-mul_left (at + 1) least in
    (omega (arith, all, one, small), omega (arith, all, small), omega (arith, all, enough))

-- a slot is written into bytes that were borrowed whole
pub changed : {size count written room n len : ℕ} {bytes lent new : List ℕ} {slots : List SlotState} {said slot : SlotState}
    (at : ℕ) → IsKept size count written room bytes → slots_by size count written bytes ≡ slots → at < written → n ≡ size
    → lent ≡ bytes → length lent ≡ len → new ≡ put_slot (at * n) n lent (slot_text said) → said ≡ slot → IsSound slot
    → slot.size ≡ (slot_at slots at).size
    → IsKept size count written room (take len (new ++ drop (length new) bytes))
    × (slots_by size count written (take len (new ++ drop (length new) bytes)) ≡ set slots at slot)
changed {size} {len} {bytes} {new} {slot} at kept view below n_is lent_is len_is new_is said_is sound same =
    let sized = same ∙ size_there at kept view below in
    let put : new ≡ put_slot (at * size) size bytes (slot_text slot) = rw (sym n_is, sym lent_is, sym said_is) new_is in
    let whole = ap length (sym lent_is) ∙ len_is in
    let size_of = ap length put ∙ length-put_slot (at * size) size bytes (slot_text slot) (within_bytes at kept below)
    (length-slot_text slot sound.fits ∙ sized) in
    let back = lent_back len new bytes (size_of ∙ whole) whole ∙ put in (
      rw back (put_kept at slot kept below sound sized),
      rw back (put_by at slot kept below sound sized ∙ ap (λ (slots : List SlotState). set slots at slot) view),
    )
