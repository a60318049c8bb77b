-- The slots of a ring in turn: numbers that are less than one round apart have slots of their own.
use Rattle.std.proofs.Common.{◌≡◌, ℕ, zero, suc, ◌+◌, ◌-◌, ◌*◌, ◌/◌, ◌%◌, ◌<◌, ◌≤◌, false, List, [], ◌∷◌, ◌++◌}
use Rattle.std.proofs.Common.{length, drop, set, refl, sym, ap, ◌∙◌, inl, inr, arith}
use Rattle.std.specs.Prelude.{◌||◌, ◌==◌}
use Rattle.std.proofs.lemmas.Bool.{cases_lt, eqb-true, eqb-false, false_from_ne_true}
use Rattle.std.proofs.lemmas.List.{get_or-set_other}
use Rattle.std.proofs.Math.Nat.{div-add-mod, mul-le-mul_left}
use Rattle.tx_ring.specs.KeptSlots.{requests_in}
use Rattle.tx_ring.specs.Rings.{is_among}
use Rattle.tx_ring.specs.Slots.{Request, SlotState, empty_slot, slot_at}

-- numbers that are less than one round apart have slots of their own
pub apart : (places from i : ℕ) → 0 < i → i < places → (from + i) % places ≡ from % places → ⊥
apart places from i some less same =
    let high = div-add-mod (from + i) places in
    let low = div-add-mod from places in
    elim (cases_lt (from / places) ((from + i) / places)) [
      | inl more ↦
          let round : places * suc (from / places) ≤ places * ((from + i) / places) = mul-le-mul_left places (omega arith) in
          let one : places * suc (from / places) ≡ places * (from / places) + places = omega arith in
          omega arith
      | inr no_more ↦
          let round : places * ((from + i) / places) ≤ places * (from / places) = mul-le-mul_left places no_more in
          omega arith
    ]

add-zero : (n : ℕ) → n + 0 ≡ n
add-zero n = omega arith

-- a place that isn't the slot of any of some numbers isn't among their slots
pub away : (places at from count : ℕ) → ((i : ℕ) → i < count → (from + i) % places ≡ at → ⊥)
    → is_among places at from count ≡ false
away places at from zero none = refl
away places at from (suc count) none =
    let here : (from % places ≡ at) → ⊥ = λ same. none 0 (omega arith) (ap (λ (n : ℕ). n % places) (add-zero from) ∙ same) in
    let rest =
    away places at (from + 1) count
    (λ i less same. none (suc i) (omega arith) (ap (λ (n : ℕ). n % places) (omega arith) ∙ same)) in
    rw (false_from_ne_true (from % places == at) (λ yes. here (eqb-true (from % places) at yes)), rest) refl

-- the slot after some slots, fewer than there are places, isn't among them
pub next_is_free : (places from count : ℕ) → count < places → is_among places ((from + count) % places) from count ≡ false
next_is_free places from count less =
    away places ((from + count) % places) from count
    (λ i below same. apart places (from + i) (count - i) (omega arith) (omega arith)
    (ap (λ (n : ℕ). n % places) (omega arith) ∙ sym same))

-- the first of some slots isn't among those after it
pub first_is_past : (places from count : ℕ) → count < places → is_among places (from % places) (from + 1) count ≡ false
first_is_past places from count less =
    away places (from % places) (from + 1) count
    (λ i below same. apart places from (suc i) (omega arith) (omega arith) (ap (λ (n : ℕ). n % places) (omega arith) ∙ same))

-- a slot among some slots is the first of them or among the rest
pub among_more : (places at from count : ℕ) → is_among places at from (suc count)
    ≡ is_among places at from count || ((from + count) % places == at)
among_more places at from zero =
    rw (add-zero from) (grind arith)
among_more places at from (suc count) =
    let last : (from + 1) + count ≡ from + suc count = omega arith in
    rw (among_more places at (from + 1) count, last) (grind arith)

-- there are as many requests as slots
pub length-requests_in : (places : ℕ) (slots : List SlotState) (from count : ℕ)
    → length (requests_in places slots from count) ≡ count
length-requests_in places slots from zero = refl
length-requests_in places slots from (suc count) = ap suc (length-requests_in places slots (from + 1) count)

-- one more slot has one more request
pub requests_more : (places : ℕ) (slots : List SlotState) (from count : ℕ)
    → requests_in places slots from (suc count) ≡ requests_in places slots from count
    ++ (slot_at slots ((from + count) % places)).request ∷ []
requests_more places slots from zero = rw (add-zero from) refl
requests_more places slots from (suc count) =
    let last : (from + 1) + count ≡ from + suc count = omega arith in
    ap (λ (rest : List Request). (slot_at slots (from % places)).request ∷ rest)
    (requests_more places slots (from + 1) count ∙ rw last refl)

-- slots that ask for the same have the same requests
pub same_requests : (places : ℕ) (old new : List SlotState) (from count : ℕ)
    → ((at : ℕ) → (slot_at new at).request ≡ (slot_at old at).request)
    → requests_in places new from count ≡ requests_in places old from count
same_requests places old new from zero same = refl
same_requests places old new from (suc count) same =
    rw (same (from % places), same_requests places old new (from + 1) count same) refl

-- a slot that isn't among some may change
pub other_requests : (places : ℕ) (slots : List SlotState) (at : ℕ) (slot : SlotState) (from count : ℕ)
    → is_among places at from count ≡ false
    → requests_in places (set slots at slot) from count ≡ requests_in places slots from count
other_requests places slots at slot from zero past = refl
other_requests places slots at slot from (suc count) past =
    let first : (from % places == at) ≡ false = grind arith in
    let here : from % places ≡ at → ⊥ = eqb-false (from % places) at first in
    rw (
      get_or-set_other slots at (from % places) slot (empty_slot 0) here,
      other_requests places slots at slot (from + 1) count (grind arith),
    ) refl

-- the requests from a place on are those of the slots from there on
pub drop-requests_in : (places : ℕ) (slots : List SlotState) (from place left : ℕ)
    → drop place (requests_in places slots from (place + left)) ≡ requests_in places slots (from + place) left
drop-requests_in places slots from zero left =
    let all : 0 + left ≡ left = omega arith in
    rw (all, add-zero from) refl
drop-requests_in places slots from (suc place) left =
    let one : suc place + left ≡ suc (place + left) = omega arith in
    let next : (from + 1) + place ≡ from + suc place = omega arith in
    rw one (drop-requests_in places slots (from + 1) place left ∙ ap (λ (n : ℕ). requests_in places slots n left) next)
