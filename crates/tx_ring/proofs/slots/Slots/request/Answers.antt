use Rattle.std.proofs.Common.{◌≡◌, ℕ, ◌+◌, ◌*◌, ◌^◌, ◌<◌, ◌≤◌, List, ◌++◌, length, take, drop, set, refl, sym, ap, ◌∙◌, arith}
use Rattle.tx_ring.specs.Slots.{SlotState, put_slot, slot_at, slot_text}
use Rattle.tx_ring.specs.SlotsInside.{IsKept, slots_by}
use Rattle.tx_ring.proofs.Pieces.{changed, is_slot, less_of, size_there}
use Rattle.tx_ring.proofs.slots.Slots.request.Goals as goal

-- the slots after a request of `given` bytes was written
abbrev requested_slot : ℕ → ℕ → ℕ → List ℕ → SlotState
requested_slot size next_offset asked given = record {
  size = size;
  status = 1;
  request = record { next_offset = next_offset; length = asked; bytes = given };
}

asked_for : {size count written room n len : ℕ} {bytes lent new : List ℕ} {slots : List SlotState}
    (at next_offset asked : ℕ) (given : List ℕ)
    → IsKept size count written room bytes → slots_by size count written bytes ≡ slots → at < written → n ≡ size
    → lent ≡ bytes → length lent ≡ len → 48 + length given ≤ (slot_at slots at).size
    → next_offset < 2 ^ 32 → asked < 2 ^ 32 → n < 2 ^ 32
    → new ≡ put_slot (at * n) n lent (slot_text (requested_slot n next_offset asked given))
    → IsKept size count written room (take len (new ++ drop (length new) bytes))
    × (slots_by size count written (take len (new ++ drop (length new) bytes))
    ≡ set slots at (requested_slot (slot_at slots at).size next_offset asked given))
asked_for {slots} at next_offset asked given kept view below n_is lent_is len_is fits offset_small asked_small small new_is =
    let there = size_there at kept view below in
    changed at kept view below n_is lent_is len_is new_is
    (ap (λ (n : ℕ). requested_slot n next_offset asked given) (n_is ∙ sym there))
    (record {
      status = omega arith;
      next_offset = offset_small;
      asked = asked_small;
      given = omega (arith, there, n_is);
      fits = fits;
    })
    refl

pub write_zeros-self-inside-requires-clause-place : goal.write_zeros-self-inside-requires-clause-place
write_zeros-self-inside-requires-clause-place c = less_of c.self.invariant c.self.view_is c.requires.within

pub write_slot-requires-clause-fits : goal.write_slot-requires-clause-fits
write_slot-requires-clause-fits c =
    let zeros = c.write_zeros-self-inside.ensures in
    let there = size_there c.args.at zeros.kept (zeros.same ∙ c.self.view_is) zeros.past in
    omega (arith, there, c.requires.fits, c.frame_size-size.ensures.value)

pub write_slot-requires-clause-slot : goal.write_slot-requires-clause-slot
write_slot-requires-clause-slot c =
    let zeros = c.write_zeros-self-inside.ensures in
    rw (c.as_mut_slice.ensures.value, c.frame_size-size.ensures.value) (is_slot c.args.at zeros.kept zeros.past)

pub invariant_of-self : goal.invariant_of-self
invariant_of-self c =
    let zeros = c.write_zeros-self-inside.ensures in
    (asked_for c.args.at c.args.next_offset c.args.asked c.args.bytes.now zeros.kept (zeros.same ∙ c.self.view_is) zeros.past
    c.frame_size-size.ensures.value c.as_mut_slice.ensures.value c.as_mut_slice.ensures.len c.requires.fits (omega arith)
    (omega arith) (omega arith) c.write_slot.ensures).0

pub returns : goal.returns
returns c =
    let zeros = c.write_zeros-self-inside.ensures in
    (asked_for c.args.at c.args.next_offset c.args.asked c.args.bytes.now zeros.kept (zeros.same ∙ c.self.view_is) zeros.past
    c.frame_size-size.ensures.value c.as_mut_slice.ensures.value c.as_mut_slice.ensures.len c.requires.fits (omega arith)
    (omega arith) (omega arith) c.write_slot.ensures).1
