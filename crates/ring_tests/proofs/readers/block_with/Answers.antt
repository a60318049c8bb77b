use Rattle.std.proofs.Common.{◌≡◌, ◌∷◌, [], ◌∙◌, ap, refl, subst, sym, arith}
use Rattle.std.proofs.lemmas.List.{length-take-le}
use Rattle.ring_model.specs.Offers.{packet_of}
use Rattle.ring_model.specs.Sizes.{need_of}
use Rattle.tp_layout.specs.Requests.{fills_hash}
use Rattle.tp_layout.specs.Blocks.{BeginsWith, needs_of}
use Rattle.tp_layout.specs.Packets.{need_of_packet}
use Rattle.tp_layout.specs.BlockWrites.{ShapedBytes, end_of}
use Rattle.tp_layout.specs.declared.requests.RingRequest.{RingRequest}
use Rattle.ring_tests.proofs.readers.block_with.Goals as goal

pub returns : goal.returns
returns c =
    let shape = c.args.shape.now in
    let o = c.args.offer.now in
    let packet = packet_of (fills_hash shape) o in
    let kept = length-take-le o.snap o.frame.bytes c.requires.sound.captured in
    let here : c.first-first.result ≡ end_of shape [] = c.first-first.ensures.value ∙ omega arith in
    let held = c.write_packet.ensures.held 1 [] c.write_header.ensures.opened here in
    let one : needs_of (packet ∷ []) ≡ need_of_packet packet = omega arith in
    let sum : needs_of (packet ∷ []) ≡ need_of o.snap = one ∙ rw kept (omega arith) in
    let text = c.close_header.ensures.text 1 (packet ∷ []) held (omega arith) (omega arith)
    (rw (c.first-first.ensures.value, c.need.ensures, sum) refl) refl in
    let same : c.close_header.new.block.shape ≡ shape =
    ap (λ (b : ShapedBytes). b.shape) c.close_header.ensures.written
    ∙ ap (λ (b : ShapedBytes). b.shape) c.write_packet.ensures.written
    ∙ ap (λ (b : ShapedBytes). b.shape) c.write_header.ensures.written
    ∙ ap (λ (b : ShapedBytes). b.shape) c.in_ok-block.ensures in
    let block = c.close_header.new.block in
    record {
      shape_is = same;
      text = (
        1,
        1,
        ∣ (packet ∷ [], subst (λ (s : RingRequest). BeginsWith s 1 1 (packet ∷ []) block.bytes) (sym same) text) ∣₁,
      );
    }
