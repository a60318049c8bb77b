use Rattle.std.proofs.Common.{◌≡◌, ◌+◌, ◌++◌, ℕ, List, drop, take, refl, ap, ◌∙◌}
use Rattle.std.proofs.lemmas.List.{drop-drop}
use Rattle.byteorder.specs.Endian.{little_bytes}
use Rattle.tx_ring.proofs.Texts.{marked}
use Rattle.tx_ring.specs.Slots.{slot_in, slot_text}
use Rattle.tx_ring.proofs.slots.write_status.Goals as goal

pub returns : goal.returns
returns c =
    let piece = take c.args.size (drop c.args.from c.args.bytes.now) in
    let held : c.split_at_mut-slot.result.0.now ≡ piece =
    c.split_at_mut-slot.ensures.front ∙ ap (take c.args.size) c.split_at_mut-rest.ensures.back in
    let after : c.split_at_mut-slot.result.1.now ≡ drop (c.args.from + c.args.size) c.args.bytes.now =
    c.split_at_mut-slot.ensures.back ∙ ap (drop c.args.size) c.split_at_mut-rest.ensures.back
    ∙ drop-drop c.args.size c.args.from c.args.bytes.now in
    let new : c.write_u32.new.bytes ≡ slot_text (record (slot_in piece) { status = c.args.status }) =
    c.write_u32.ensures ∙ ap (λ (bytes : List ℕ). take 20 bytes ++ (little_bytes 4 c.args.status ++ drop 24 bytes)) held
    ∙ marked piece (slot_in piece) c.args.status c.requires.slot.text in
    rw (c.split_at_mut-rest.ensures.front, after, new) refl
