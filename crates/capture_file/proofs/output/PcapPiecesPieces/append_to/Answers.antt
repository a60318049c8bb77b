use Rattle.std.proofs.Common.{rules, ◌≡◌, ◌∷◌, ◌≤◌, length, subst, All}
use Rattle.std.proofs.lemmas.List.{nil_from_length}
use Rattle.std.proofs.lemmas.List.Elements.{All-tail}
use Rattle.frame_view.specs.declared.frames.Packet.{Packet}
use Rattle.capture_file.proofs.Pieces.{record_moved}
use Rattle.capture_file.proofs.output.PcapPiecesPieces.append_to.Goals as goal

pub loop-buffer-preserved : goal.loop-buffer-preserved
loop-buffer-preserved c =
    let are : c.loop-buffer.packets.now ≡ c.in-Some.packet.now ∷ c.in-Some.behind.now = search rules in
    let short = λ (packet : Packet). length packet.bytes ≤ 4294967291 in (
      record_moved c.loop-buffer.buffer.items c.push_start-data.new.buffer.items
          c.push_front-rest-in-loop-buffer.new.buffer.items c.push_start-data.result.now c.loop-buffer.rest.now
          c.push_front-rest-in-loop-buffer.result.now _ c.in-Some.packet.now c.loop-buffer.packets.now
          c.in-Some.behind.now (nil_from_length _ (search rules)) are c.loop-buffer.invariant.0 c.push_start-data.ensures.moved
          c.push_front-rest-in-loop-buffer.ensures.moved,
      search rules,
      search rules,
      search rules,
      All-tail short c.in-Some.packet.now c.in-Some.behind.now (subst (λ packets. All short packets) are c.loop-buffer.invariant.4),
    )
