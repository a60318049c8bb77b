use Rattle.std.proofs.Common.{List, ℕ, subst, sym}
use Rattle.tp_layout.specs.Blocks.{BeginsLawfully}
use Rattle.tp_layout.specs.declared.requests.RingRequest.{RingRequest}
use Rattle.tp_layout.proofs.layouts.BlockLayout.into_packets.Goals as goal

pub packets_of-requires-clause-lawful : goal.packets_of-requires-clause-lawful
packets_of-requires-clause-lawful c =
    let t = c.requires.ready in (
      t.0,
      t.1,
      subst (λ (bytes : List ℕ). BeginsLawfully c.shape.result.now t.0 t.1 bytes) (sym c.bytes.ensures.value)
          (subst (λ (shape : RingRequest). BeginsLawfully shape t.0 t.1 c.args.self.bytes) (sym c.shape.ensures) t.2),
    )
