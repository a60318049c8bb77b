use Rattle.std.proofs.Common.{◌≡◌, ◌+◌, ◌≤◌, ◌<◌, ◌++◌, ◌∷◌, [], ◌∙◌, ap, sym, subst, refl, arith, length}
use Rattle.std.proofs.lemmas.List.{length-take-le}
use Rattle.ring_model.specs.Offers.{packet_of}
use Rattle.ring_model.specs.Sizes.{need_of}
use Rattle.tp_layout.specs.declared.requests.RingRequest.{RingRequest}
use Rattle.tp_layout.specs.Requests.{fills_hash, first_of}
use Rattle.tp_layout.specs.Blocks.{BeginsLawfully, needs_of}
use Rattle.tp_layout.specs.BlockWrites.{ShapedBytes, end_of}
use Rattle.tp_layout.proofs.Opens.{needs-cons}
use Rattle.ring_tests.proofs.sample_blocks.block_with.Goals as goal

pub returns-clause-text : goal.returns-clause-text
returns-clause-text c =
    let shape = c.args.shape.now in
    let o = c.args.offer.now in
    let packet = packet_of (fills_hash shape) o in
    let kept = length-take-le o.snap o.frame.bytes c.requires.sound.captured in
    let here : c.first-first.result ≡ end_of shape [] = c.first-first.ensures.value ∙ omega arith in
    let held = c.write_packet.ensures.held 1 [] c.write_header.ensures.opened here in
    let sum : needs_of (packet ∷ []) ≡ need_of o.snap = needs-cons packet [] ∙ rw kept (omega arith) in
    let text = c.close_header.ensures.text 1 (packet ∷ []) held (omega arith) (omega arith)
    (rw (c.first-first.ensures.value, c.need.ensures, sum) refl) refl in
    let same : c.close_header.new.block.shape ≡ shape =
    ap (λ (b : ShapedBytes). b.shape) c.close_header.ensures.written
    ∙ ap (λ (b : ShapedBytes). b.shape) c.write_packet.ensures.written
    ∙ ap (λ (b : ShapedBytes). b.shape) c.write_header.ensures.written ∙ c.in_ok-block.ensures in
    subst (λ (s : RingRequest). BeginsLawfully s 1 1 c.close_header.new.block.bytes) (sym same) ∣ (packet ∷ [], text) ∣₁
