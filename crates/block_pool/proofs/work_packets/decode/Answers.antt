use Rattle.std.proofs.Common.{◌≡◌, ◌++◌, List, ℕ, ◌∙◌, ap, sym, subst}
use Rattle.frame_view.specs.declared.frames.Packet.{Packet}
use Rattle.reader_walk.specs.Takers.{IsRetired}
use Rattle.tp_layout.specs.Blocks.{HasText}
use Rattle.block_pool.proofs.Texts.{found, lawful_bytes, whole, within}
use Rattle.block_pool.proofs.work_packets.decode.Goals as goal

pub packets_of-requires : goal.packets_of-requires
packets_of-requires c =
    let work = c.args.work.now in
    let law = c.a_text_is_read_as_it_was_written.ensures in
    let small = c.a_shape_is_sound.ensures.sound.small in
    record {
      size = rw c.as_slice.ensures (within law work.shape work.text small c.requires.lawful);
      lawful = subst (λ (t : List ℕ). IsRetired work.shape t) (sym c.as_slice.ensures)
          (lawful_bytes law work.shape work.text small c.requires.lawful);
    }

pub returns-clause-packets : goal.returns-clause-packets
returns-clause-packets c =
    let work = c.args.work.now in
    let law = c.a_text_is_read_as_it_was_written.ensures in
    let small = c.a_shape_is_sound.ensures.sound.small in
    let all : c.from_vec.result ≡ c.packets_of.result =
    c.from_vec.ensures ∙ c.in_ok-push_copies.ensures.copies
    ∙ ap (λ (ps : List Packet). ps ++ c.packets_of.result) c.new-packets.ensures.items in
    let has = subst (λ (ps : List Packet). HasText work.shape work.text ps) (sym all)
    (subst (λ (t : List ℕ). HasText work.shape t c.packets_of.result) c.as_slice.ensures c.packets_of.ensures.found) in
    whole law work.shape work.text small c.from_vec.result has c.requires.lawful

pub returns-clause-taken : goal.returns-clause-taken
returns-clause-taken c =
    let work = c.args.work.now in
    let law = c.a_text_is_read_as_it_was_written.ensures in
    let small = c.a_shape_is_sound.ensures.sound.small in
    let all : c.from_vec.result ≡ c.packets_of.result =
    c.from_vec.ensures ∙ c.in_ok-push_copies.ensures.copies
    ∙ ap (λ (ps : List Packet). ps ++ c.packets_of.result) c.new-packets.ensures.items in
    let has = subst (λ (ps : List Packet). HasText work.shape work.text ps) (sym all)
    (subst (λ (t : List ℕ). HasText work.shape t c.packets_of.result) c.as_slice.ensures c.packets_of.ensures.found) in
    found law work.shape work.text small c.from_vec.result has
