use Rattle.std.proofs.Common.{◌/◌, ◌∙◌, sym, ap}
use Rattle.std.specs.Prelude.{min}
use Rattle.tx_ring.proofs.Requests.{never_refused}
use Rattle.tx_ring.proofs.transmission.fewer_blocks.Goals as goal

pub unreachable-requires : goal.unreachable-requires
unreachable-requires c =
    never_refused {shape = c.args.shape.now} c.requires c.block_size-block_size.ensures.sound
    c.block_size-block_size.ensures.value
    c.frame_size-frame_size.ensures.value
    (c.min-block_nr.ensures
    ∙ ap (λ n. min n (4194304 / c.block_size-block_size.result)) c.block_nr.ensures.value)
    (sym c.in-Err.is ∙ c.check_tx.ensures)
