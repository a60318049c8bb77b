use Rattle.std.proofs.Common.{ap, ◌∙◌}
use Rattle.tp_layout.specs.Rows.{number_at}
use Rattle.tx_ring.specs.Slots.{SlotState}
use Rattle.tx_ring.proofs.slots.Slots.status.Goals as goal

pub returns : goal.returns
unfolding number_at
returns c = c.field.ensures.value ∙ ap (λ (slot : SlotState). slot.status) c.field.ensures.told
