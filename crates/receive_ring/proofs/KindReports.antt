-- A replay over rings of a kind reports a group.
use Rattle.std.proofs.Common.{ℕ, ◌<◌, List, Option}
use Rattle.fanout_group.specs.Rules.{Rules}
use Rattle.frame_view.specs.declared.frames.Frame.{Frame}
use Rattle.receive_ring.proofs.OpenSlots.{IsOpenSlots, closed_slots, slots_keep}
use Rattle.receive_ring.proofs.ReplayEnds.{report_is}
use Rattle.receive_ring.proofs.Rings.{IsOpen, blocks_keep, closed_run}
use Rattle.receive_ring.specs.Replay.{replayed}
use Rattle.receive_ring.specs.Reports.{AreArrivals, IsReplayReport, IsRingReport}
use Rattle.ring_model.specs.Ring.{Size}
use Rattle.run_reports.specs.RingRules.{IsWholeBy}
use Rattle.run_reports.specs.RingSteps.{block_steps, slot_steps, steps_by}
use Rattle.run_reports.specs.declared.ring_kind.RingKind.{RingKind}
use Rattle.run_reports.specs.declared.ring_kind.RingKind.TheVariants.{Blocks, Slots}
use Rattle.setup_text.specs.TickOrder.{IsSchedule}
use Rattle.setup_text.specs.declared.lines.Line.{Line}

pub report_by : (kind : RingKind) (rules : Rules) (size : Size) (arriving : List (List (Option Frame))) (lines : List Line)
    → 0 < rules.members → AreArrivals arriving → IsSchedule lines
    → IsReplayReport rules size.room (IsRingReport size (IsWholeBy kind size)) arriving
    (replayed rules (steps_by kind size) arriving lines)
report_by Blocks rules size = report_is (IsOpen size) rules (block_steps size) (blocks_keep size)
    (IsRingReport size (IsWholeBy Blocks size)) (closed_run size)
report_by Slots rules size = report_is (IsOpenSlots size) rules (slot_steps size) (slots_keep size)
    (IsRingReport size (IsWholeBy Slots size)) (closed_slots size)
