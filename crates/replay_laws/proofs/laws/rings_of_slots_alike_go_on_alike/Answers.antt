use Rattle.slot_layout.specs.SlotFates.{slot_stats_of}
use Rattle.replay_laws.proofs.AlikeSlots.{slots_go_on_alike}
use Rattle.replay_laws.proofs.AlikeSlotStats.{begins_offset, stats_like}
use Rattle.replay_laws.proofs.laws.rings_of_slots_alike_go_on_alike.Goals as goal

pub returns : goal.returns
returns c = record {
  rings = λ gap size happenings others one other snaps tags h k.
      slots_go_on_alike gap snaps tags size happenings others one other h k;
  stats = λ gap notes others one other k.
      stats_like gap notes others one other (slot_stats_of one) (slot_stats_of other) (begins_offset one other) k;
}
