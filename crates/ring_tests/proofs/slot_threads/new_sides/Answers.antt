use Rattle.std.proofs.Common.{◌≡◌, ◌+◌, ◌≤◌, ◌∙◌, ap, arith, length, refl}
use Rattle.std.proofs.Math.ListN.{length-replicate}
use Rattle.ring_words.specs.TableEnds.{Feeding}
use Rattle.slot_layout.specs.SlotShapes.{zero_slot}
use Rattle.slot_layout.proofs.SlotBounds.{slot_bounds}
use Rattle.tp_layout.specs.Requests.{numbers_of}
use Rattle.ring_tests.proofs.AllAlike.{one_kind}
use Rattle.ring_tests.proofs.slot_threads.new_sides.Goals as goal

pub table_ring-requires : goal.table_ring-requires
table_ring-requires c =
    let shape = c.args.shape.now in
    let bounds = slot_bounds shape c.requires in
    let count = ap length c.in_ok-slots.ensures ∙ length-replicate shape.frame_nr (zero_slot shape) in
    record {
      some = omega (arith, count, bounds.some);
      few = omega (arith, count, bounds.few);
      kind = (numbers_of shape, rw c.in_ok-slots.ensures (one_kind shape.frame_nr (zero_slot shape)));
    }

pub new-requires : goal.new-requires
new-requires c =
    let shape = c.args.shape.now in
    let fresh = c.in_ok-feeder.ensures.feeder in
    record {
      checked = c.requires;
      fresh = record {
        places = ap (λ (s : Feeding). s.places) fresh ∙ (ap length c.in_ok-slots.ensures ∙ length-replicate _ _);
        kind = c.in_ok-feeder.ensures.kind (numbers_of shape)
            (rw c.in_ok-slots.ensures (one_kind shape.frame_nr (zero_slot shape)));
        given = ap (λ (s : Feeding). s.given) fresh;
        retired_none = ap (λ (s : Feeding). length s.retired) fresh;
        passed = refl;
        shown = ap (λ (s : Feeding). s.retired) fresh;
      };
    }
