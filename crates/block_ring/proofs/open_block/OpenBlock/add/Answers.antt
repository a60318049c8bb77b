use Rattle.std.proofs.Common.{ℕ, ◌∙◌, ap, arith, subst, sym}
use Rattle.tp_layout.specs.BlockWrites.{IsOpen, ShapedBytes}
use Rattle.tp_layout.specs.Dump.{packets_of_offers}
use Rattle.tp_layout.specs.declared.block_writes.Closing.{Closing}
use Rattle.block_ring.specs.declared.open_block.OpenBlock.{OpenBlock}
use Rattle.block_ring.proofs.Packets.{closing_push, need_least, packets_push, used_push, writable_push}
use Rattle.block_ring.proofs.open_block.OpenBlock.add.Goals as goal

pub returns : goal.returns
returns g c =
    let holds = c.requires.0 in
    let offer = c.args.offer.now in
    let shape = c.args.shape.now in
    let old = packets_of_offers shape g.text.offers in
    let more = used_push g.text.offers offer in
    let least = need_least offer c.requires.1.0 in
    let packets = packets_push shape g.text.offers offer in
    let same = c.keep_first_time.ensures.same in
    let block = ap (λ (o : OpenBlock). o.block) same in
    let length_kept = ap (λ (o : OpenBlock). o.closing.length) same in
    let packets_kept = ap (λ (o : OpenBlock). o.closing.packets) same in
    let status = ap (λ (o : OpenBlock). o.closing.status) same ∙ ap (λ (w : Closing). w.status) holds.closing_is in
    let place = length_kept ∙ ap (λ (w : Closing). w.length) holds.closing_is in
    let count = packets_kept ∙ ap (λ (w : Closing). w.packets) holds.closing_is in
    let time = c.keep_first_time.ensures.time shape holds in
    let first_sec = ap (λ (t : ℕ × ℕ). t.0) time in
    let first_nsec = ap (λ (t : ℕ × ℕ). t.1) time in
    let opened = subst (λ (b : ShapedBytes). IsOpen shape g.text.number old b.bytes) (sym block) holds.text_is in
    record {
      shape_is = cc;
      text_is = rw packets (c.write.ensures.held g.text.number old opened place);
      closing_is = rw (first_sec, first_nsec, status, count, place, c.need.ensures)
          (sym (closing_push shape g.text.offers offer holds.writable c.requires.1.0));
      writable = writable_push g.text.offers offer holds.writable c.requires.1.0;
      end_is = (let before = holds.end_is in omega (arith, length_kept));
      fits = omega (arith, length_kept);
      few = (let before = holds.few in omega (arith, length_kept, packets_kept));
      aligned = (let before = holds.aligned in omega (arith, length_kept));
    }
