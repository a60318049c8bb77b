use Rattle.std.proofs.Common.{◌≡◌, ℕ, ◌*◌, ◌^◌, ◌<◌, List, ◌++◌, length, take, drop, set, refl, sym, ap, subst, ◌∙◌, arith}
use Rattle.tx_ring.specs.Slots.{IsSound, SlotState, put_slot, slot_at, slot_in, slot_text}
use Rattle.tx_ring.specs.SlotsInside.{IsKept, slots_by}
use Rattle.tx_ring.proofs.Pieces.{changed, is_slot, less_of, written_slot}
use Rattle.tx_ring.proofs.slots.Slots.set_status.Goals as goal

-- the slots after a status was written
marked : {size count written room n len : ℕ} {bytes lent new : List ℕ} {slots : List SlotState} (at status : ℕ)
    → IsKept size count written room bytes → slots_by size count written bytes ≡ slots → at < written → n ≡ size
    → lent ≡ bytes → length lent ≡ len → status < 2 ^ 32
    → new ≡ put_slot (at * n) n lent (slot_text (record (slot_in (take n (drop (at * n) lent))) { status = status }))
    → IsKept size count written room (take len (new ++ drop (length new) bytes))
    × (slots_by size count written (take len (new ++ drop (length new) bytes))
    ≡ set slots at (record (slot_at slots at) { status = status }))
marked {size} {count} {written} {n} {bytes} {lent} {slots} at status kept view below n_is lent_is len_is small new_is =
    let was : slot_in (take size (drop (at * size) bytes)) ≡ slot_at slots at =
    sym (written_slot size count written at bytes below) ∙ ap (λ (slots : List SlotState). slot_at slots at) view in
    let there : slot_in (take n (drop (at * n) lent)) ≡ slot_in (take size (drop (at * size) bytes)) =
    rw (n_is, lent_is) refl in
    let s : IsSound (slot_at slots at) = subst IsSound was (is_slot at kept below).sound in
    changed at kept view below n_is lent_is len_is new_is
    (ap (λ (slot : SlotState). record slot { status = status }) (there ∙ was))
    (record { status = small; next_offset = s.next_offset; asked = s.asked; given = s.given; fits = s.fits }) refl

pub write_zeros-self-inside-requires-clause-place : goal.write_zeros-self-inside-requires-clause-place
write_zeros-self-inside-requires-clause-place c = less_of c.self.invariant c.self.view_is c.requires

pub write_status-requires-clause-slot : goal.write_status-requires-clause-slot
write_status-requires-clause-slot c =
    let zeros = c.write_zeros-self-inside.ensures in
    rw (c.as_mut_slice.ensures.value, c.frame_size-size.ensures.value) (is_slot c.args.at zeros.kept zeros.past)

pub invariant_of-self : goal.invariant_of-self
invariant_of-self c =
    let zeros = c.write_zeros-self-inside.ensures in
    (marked c.args.at c.args.status zeros.kept (zeros.same ∙ c.self.view_is) zeros.past c.frame_size-size.ensures.value
    c.as_mut_slice.ensures.value c.as_mut_slice.ensures.len (omega arith) c.write_status.ensures).0

pub returns : goal.returns
returns c =
    let zeros = c.write_zeros-self-inside.ensures in
    (marked c.args.at c.args.status zeros.kept (zeros.same ∙ c.self.view_is) zeros.past c.frame_size-size.ensures.value
    c.as_mut_slice.ensures.value c.as_mut_slice.ensures.len (omega arith) c.write_status.ensures).1
