use Rattle.std.proofs.Common.{◌≡◌, ◌<◌, ◌∙◌, length, sym, ap, arith}
use Rattle.reader_walk.specs.Takers.{Base}
use Rattle.tp_layout.specs.Requests.{numbers_of}
use Rattle.cpu_feeders.proofs.Pendings.{pending_length, pending_more}
use Rattle.tp_layout.proofs.OneShape.{one_shape}
use Rattle.cpu_feeders.proofs.closed_members.read_pending.Goals as goal

pub block-requires-clause-readable : goal.block-requires-clause-readable
block-requires-clause-readable g c =
    let block = c.in-Some.block.now in
    let same : numbers_of (g.T.Taker.base c.args.taker.now).shape ≡ numbers_of (g.T.Taker.base c.loop-at.taker).shape =
    ap (λ (base : Base). numbers_of base.shape) (sym c.loop-at.invariant.base) in
    record {
      shape_is = one_shape block.shape (g.T.Taker.base c.loop-at.taker).shape (c.in-Some.ensures.kind ∙ c.requires.kind ∙ same);
      text = (_, _, c.in-Some.ensures.ready);
    }

pub block-requires-clause-few : goal.block-requires-clause-few
block-requires-clause-few g c =
    let blocks = c.args.pending.now.blocks in
    let there = c.loop-at-test.true in
    let many = c.len-at-end.ensures in
    let read = pending_length (g.T.Taker.base c.args.taker.now) (g.T.Taker.taken c.args.taker.now) _ blocks c.loop-at.at
    (omega (arith, there, many)) c.loop-at.invariant.read in
    omega (arith, read, there, many, c.requires.few)

pub loop-at-preserved : goal.loop-at-preserved
loop-at-preserved g c =
    let there = c.loop-at-test.true in
    let many = c.len-at-end.ensures in
    let within : c.loop-at.at < length c.args.pending.now.blocks = omega (arith, there, many) in
    record {
      base = c.block.ensures.base ∙ c.loop-at.invariant.base;
      read = pending_more (g.T.Taker.base c.args.taker.now) (g.T.Taker.base c.loop-at.taker)
          (g.T.Taker.taken c.args.taker.now) _ _
          c.args.pending.now.blocks c.loop-at.at c.in-Some.block.now c.in-Some.field-0-1 (sym c.in-Some.ensures.value) within
          c.loop-at.invariant.base
          c.loop-at.invariant.read c.in_ok-block-in-Some.ensures.read;
    }
