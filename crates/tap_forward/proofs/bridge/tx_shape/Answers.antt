use Rattle.std.proofs.Common.{◌∙◌, sym}
use Rattle.tap_forward.proofs.PlainRequests.{never_refused}
use Rattle.tap_forward.proofs.bridge.tx_shape.Goals as goal

pub unreachable-requires : goal.unreachable-requires
unreachable-requires c = never_refused c.args.request.now c.in-Err.field-0 c.requires (sym c.in-Err.is ∙ c.check_tx.ensures)
