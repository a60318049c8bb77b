use Rattle.std.proofs.Common.{ap, refl}
use Rattle.tx_ring.specs.Rings.{TxState}
use Rattle.tap_forward.proofs.Givings.{fresh}
use Rattle.tap_forward.proofs.sender.Sender.new.Goals as goal

pub returns-clause-given : goal.returns-clause-given
returns-clause-given c =
    fresh (record { alloc = c.args.alloc; ring = c.in_ok-new.field-0; sent = c.new-2.result; skipped = 0 })
    (ap (λ (r : TxState). r.requests) c.in_ok-new.ensures) (ap (λ (r : TxState). r.placed) c.in_ok-new.ensures)
    c.new-2.ensures refl
