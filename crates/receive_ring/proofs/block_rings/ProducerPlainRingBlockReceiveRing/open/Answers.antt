use Rattle.std.proofs.Common.{◌≡◌, ◌∙◌, List, ap, length, subst, sym}
use Rattle.std.specs.List.{AllByRecursion}
use Rattle.std.proofs.lemmas.List.{length-replicate}
use Rattle.receive_ring.proofs.BlockCalls.{fresh_end, one_kind}
use Rattle.tp_layout.specs.Requests.{numbers_of}
use Rattle.tp_layout.specs.BlockWrites.{ShapedBytes, zero_block}
use Rattle.receive_ring.proofs.block_rings.ProducerPlainRingBlockReceiveRing.open.Goals as goal

pub new-requires-clause-kind : goal.new-requires-clause-kind
new-requires-clause-kind c =
    let shape = c.args.shape.now in (
      numbers_of shape,
      subst (λ (blocks : List ShapedBytes). AllByRecursion (λ block. numbers_of block.shape ≡ numbers_of shape) blocks)
          (sym c.in_ok-blocks.ensures) (one_kind shape shape.block_nr),
    )

pub new-requires-2 : goal.new-requires-2
new-requires-2 c =
    let shape = c.args.shape.now in
    let same = subst (λ (blocks : List ShapedBytes). AllByRecursion (λ block. numbers_of block.shape ≡ numbers_of shape) blocks)
    (sym c.in_ok-blocks.ensures) (one_kind shape shape.block_nr) in
    fresh_end shape _ _ c.in_ok-ring.ring c.in_ok-ring.ensures.fresh (c.in_ok-ring.ensures.kind (numbers_of shape) same)
    (ap (λ (blocks : List ShapedBytes). length blocks) c.in_ok-blocks.ensures
    ∙ length-replicate shape.block_nr (zero_block shape))
