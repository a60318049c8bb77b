use Rattle.std.proofs.Common.{◌≡◌, ◌+◌, ◌-◌, ℕ, List, length, drop, replicate, take, refl, sym, subst, ap, ◌∙◌, arith}
use Rattle.std.proofs.lemmas.List.{drop-drop}
use Rattle.tp_layout.specs.Rows.{number_at}
use Rattle.tx_ring.specs.Slots.{IsSlot, header_text, slot_text}
use Rattle.tx_ring.proofs.Texts.{zeros_after}
use Rattle.tx_ring.proofs.slots.write_slot.Goals as goal

pub write_data-requires-clause-within : goal.write_data-requires-clause-within
write_data-requires-clause-within c =
    let held : c.split_at_mut-slot.result.0.now ≡ take c.args.size (drop c.args.from c.args.bytes.now) =
    c.split_at_mut-slot.ensures.front ∙ ap (take c.args.size) c.split_at_mut-rest.ensures.back in
    let after = zeros_after c.split_at_mut-slot.result.0.now (subst IsSlot (sym held) c.requires.slot) in
    let slot_size = c.split_at_mut-slot.ensures.front_len in
    let data_size = c.split_at_mut-header.ensures.back_len in
    omega (arith, after.0, slot_size, data_size, c.u32_at-earlier.ensures)

pub write_data-requires-clause-zeros : goal.write_data-requires-clause-zeros
write_data-requires-clause-zeros c =
    let slot = c.split_at_mut-slot.result.0.now in
    let held : slot ≡ take c.args.size (drop c.args.from c.args.bytes.now) =
    c.split_at_mut-slot.ensures.front ∙ ap (take c.args.size) c.split_at_mut-rest.ensures.back in
    let after = zeros_after slot (subst IsSlot (sym held) c.requires.slot) in
    let slot_size = c.split_at_mut-slot.ensures.front_len in
    let data_size = c.split_at_mut-header.ensures.back_len in
    let left : length slot - (48 + number_at 4 12 slot) ≡ length c.split_at_mut-header.result.1.now - number_at 4 12 slot =
    omega (arith, slot_size, data_size) in
    rw (c.u32_at-earlier.ensures, c.split_at_mut-header.ensures.back)
    (after.1 ∙ ap (λ (n : ℕ). replicate {A = ℕ} n 0)
    (left ∙ ap (λ (bytes : List ℕ). length bytes - number_at 4 12 slot) c.split_at_mut-header.ensures.back))

pub returns : goal.returns
unfolding slot_text header_text
returns c =
    let after : c.split_at_mut-slot.result.1.now ≡ drop (c.args.from + c.args.size) c.args.bytes.now =
    c.split_at_mut-slot.ensures.back ∙ ap (drop c.args.size) c.split_at_mut-rest.ensures.back
    ∙ drop-drop c.args.size c.args.from c.args.bytes.now in
    let slot_size = c.split_at_mut-slot.ensures.front_len in
    let data_size = c.split_at_mut-header.ensures.back_len in
    let rest : length c.split_at_mut-header.result.1.now - length c.args.given.now
    ≡ c.args.size - (48 + length c.args.given.now) = omega (arith, slot_size, data_size) in
    rw (c.split_at_mut-rest.ensures.front, after, c.write_header.ensures, c.write_data.ensures, rest) refl
