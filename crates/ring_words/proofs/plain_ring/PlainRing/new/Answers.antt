use Rattle.std.proofs.Common.{◌≡◌, ◌<◌, ◌∙◌, ap, length, arith}
use Rattle.ring_words.proofs.Openings.{first_kind, opened}
use Rattle.ring_words.proofs.Queues.{contents-all_vacant, marks-all_vacant}
use Rattle.ring_words.proofs.plain_ring.PlainRing.new.Goals as goal

pub invariant_of-result : goal.invariant_of-result
invariant_of-result g c =
    let common = c.requires.kind.0 in
    let some : 0 < length c.args.blocks.items = omega arith in
    let sample : g.B.Content.kind c.of-sample.result.value ≡ common =
    ap g.B.Content.kind c.of-sample.ensures ∙ first_kind g.B.Content.kind common c.args.blocks.items _ c.index.ensures some
    c.requires.kind.1 in
    let places : c.len-places.result ≡ length c.args.blocks.items = omega arith in
    let keeps = opened g.B.Content.bytes g.B.Content.kind g.B.Content.ready c.args.blocks.items common c.requires.some
    c.requires.few c.requires.kind.1 in
    rw (
      sample,
      places,
      c.in_ok-all_vacant.ensures.items,
      c.in_ok-filled.ensures.items,
      contents-all_vacant g.B.Content.bytes,
      marks-all_vacant,
    ) (
      keeps,
      omega (arith, c.in_ok-all_vacant.ensures.room),
      omega (arith, c.in_ok-filled.ensures.capacity),
    )

pub returns : goal.returns
returns g c =
    let places : c.len-places.result ≡ length c.args.blocks.items = omega arith in
    record {
      fresh = rw (
        places,
        c.in_ok-all_vacant.ensures.items,
        c.in_ok-filled.ensures.items,
        contents-all_vacant g.B.Content.bytes,
        marks-all_vacant,
      );
      kind = λ common all.
          let some : 0 < length c.args.blocks.items = omega arith in
          ap g.B.Content.kind c.of-sample.ensures
          ∙ first_kind g.B.Content.kind common c.args.blocks.items _ c.index.ensures some all;
    }
