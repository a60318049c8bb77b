-- The bounds of a shape that came from `check_v2`.
use Rattle.std.proofs.Common.{◌≡◌, ℕ, ◌*◌, ◌/◌, ◌%◌, ◌≤◌, Bool, true, false, cond, refl, sym, ◌∙◌, inl, inr, arith}
use Rattle.std.specs.Prelude.{◌==◌, ◌||◌, not, nat_lt, Option, None, Some, Ok}
use Rattle.std.specs.Option.{option_or}
use Rattle.std.proofs.Math.Nat.{div-eq_of_lt, mul-le-mul}
use Rattle.std.proofs.lemmas.Bool.{cases_lt, eq-eqb, eqb-true, ltb-false, or_parts, true≢false}
use Rattle.std.proofs.lemmas.Option.{none-some}
use Rattle.tp_layout.specs.Requests.{answer_of, frames_in, receive_fault, slot_fault, transmit_fault}
use Rattle.tp_layout.specs.declared.error.RequestError.{RequestError}
use Rattle.tp_layout.specs.declared.error.RequestError.TheVariants.{Slots}
use Rattle.tp_layout.specs.declared.requests.RingRequest.{RingRequest}
use Rattle.slot_layout.specs.SlotShapes.{IsSlotShape, SlotBounds}

-- this test passed, and so did those after it
passed : (test : Bool) (fault : RequestError) (rest : Option RequestError) → cond test (Some fault) rest ≡ None
    → (test ≡ false) × (rest ≡ None)
passed true fault rest e = absurd (none-some fault (sym e))
passed false fault rest e = (λ i. false, e)

or_none : (first second : Option RequestError) → option_or first second ≡ None → (first ≡ None) × (second ≡ None)
or_none None second e = (λ i. None, e)
or_none (Some fault) second e = absurd (none-some fault (sym e))

pub slot_bounds : (shape : RingRequest) → IsSlotShape shape → SlotBounds shape
unfolding slot_fault transmit_fault receive_fault
slot_bounds shape e =
    let size = shape.block_size in
    let slot = shape.frame_size in
    let last = or_none (transmit_fault shape) (cond (nat_lt 65536 shape.frame_nr) (Some Slots) None) e in
    let many = passed (nat_lt 65536 shape.frame_nr) Slots None last.1 in
    let first = or_none (receive_fault shape) _ last.0 in
    let a = passed ((size == 0) || not (size % 4096 == 0) || nat_lt 1048576 size) _ _ first.0 in
    let b = passed (nat_lt shape.block_nr 2 || nat_lt 256 shape.block_nr || nat_lt 67108864 (size * shape.block_nr)) _ _ a.1 in
    let c = passed (nat_lt 1024 shape.sizeof_priv) _ _ b.1 in
    let d = passed (nat_lt slot 68) _ _ c.1 in
    let f = passed (not (slot % 16 == 0)) _ _ d.1 in
    let g = passed ((size / slot == 0) || not (frames_in shape == shape.frame_nr)) _ _ f.1 in
    let large = ltb-false 1048576 size (or_parts ((size == 0) || not (size % 4096 == 0)) (nat_lt 1048576 size) a.0).1 in
    let blocks = or_parts (nat_lt shape.block_nr 2 || nat_lt 256 shape.block_nr)
    (nat_lt 67108864 (size * shape.block_nr)) b.0 in
    let two = ltb-false shape.block_nr 2 (or_parts (nat_lt shape.block_nr 2) (nat_lt 256 shape.block_nr) blocks.0).0 in
    let frames = or_parts (size / slot == 0) (not (frames_in shape == shape.frame_nr)) g.0 in
    let each = in_a_block size slot frames.0 in
    let all = counted (frames_in shape) shape.frame_nr frames.1 in
    let least : 1 * 2 ≤ size / slot * shape.block_nr = mul-le-mul each.0 two in
    record {
      some = omega (arith, least, all);
      few = ltb-false 65536 shape.frame_nr many.0;
      small = omega (arith, each.1, large);
    }
  where
    -- where a frame fits into a block
    in_a_block : (size slot : ℕ) → (size / slot == 0) ≡ false → (1 ≤ size / slot) × (slot ≤ size)
    in_a_block size slot some =
        let not_none : (size / slot ≡ 0) → ⊥ = λ none. true≢false (sym (eq-eqb (size / slot) 0 none) ∙ some) in
        elim (cases_lt size slot) [
          | inl less ↦ absurd (not_none (div-eq_of_lt less))
          | inr past ↦ (omega (arith, not_none), past)
        ]

    counted : (all asked : ℕ) → not (all == asked) ≡ false → all ≡ asked
    counted all asked same = eqb-true all asked (not_back (all == asked) same)
      where
        not_back : (b : Bool) → not b ≡ false → b ≡ true
        not_back true e = refl
        not_back false e = absurd (true≢false e)

-- a shape that `check_v2` gave
pub came_from_check : (request shape : RingRequest) → Ok shape ≡ answer_of request (slot_fault request) → IsSlotShape shape
came_from_check request shape e = by_fault (slot_fault request) refl e
  where
    by_fault : (fault : Option RequestError) → slot_fault request ≡ fault → Ok shape ≡ answer_of request fault
        → IsSlotShape shape
    by_fault None none e = let same : shape ≡ request = cc in rw same none
    by_fault (Some fault) some e = cc
