use Rattle.std.proofs.Common.{◌≡◌, replicate}
use Rattle.slot_layout.specs.SlotShapes.{zero_slot}
use Rattle.slot_layout.proofs.ring_slots.slots.Given as goal

-- one slot of zeros for each round
abbrev pub invariant-loop : goal.invariant-loop
invariant-loop l = l.slots.items ≡ replicate l.counter (zero_slot l.shape)
