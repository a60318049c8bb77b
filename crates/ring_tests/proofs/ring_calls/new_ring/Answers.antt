use Rattle.std.proofs.Common.{◌≡◌, ◌+◌, ◌≤◌, ◌∙◌, ap, arith, length, refl, sym}
use Rattle.std.proofs.Math.ListN.{length-replicate}
use Rattle.ring_words.specs.PlainRings.{PlainState}
use Rattle.slot_layout.specs.SlotShapes.{zero_slot}
use Rattle.slot_layout.proofs.SlotBounds.{slot_bounds}
use Rattle.tp_layout.specs.Requests.{numbers_of}
use Rattle.ring_tests.proofs.AllAlike.{one_kind}
use Rattle.ring_tests.proofs.ring_calls.new_ring.Goals as goal

pub new-requires : goal.new-requires
new-requires c =
    let shape = c.args.shape.now in
    let bounds = slot_bounds shape c.requires in
    let count = ap length c.in_ok-slots.ensures ∙ length-replicate shape.frame_nr (zero_slot shape) in
    record {
      some = omega (arith, count, bounds.some);
      few = omega (arith, count, bounds.few);
      kind = (numbers_of shape, rw c.in_ok-slots.ensures (one_kind shape.frame_nr (zero_slot shape)));
    }

pub new-requires-2 : goal.new-requires-2
new-requires-2 c =
    let shape = c.args.shape.now in
    let fresh = c.in_ok-end.ensures.fresh in
    record {
      checked = c.requires;
      fresh = record {
        places = ap (λ (s : PlainState). s.places) fresh ∙ (ap length c.in_ok-slots.ensures ∙ length-replicate _ _);
        kind = c.in_ok-end.ensures.kind (numbers_of shape)
            (rw c.in_ok-slots.ensures (one_kind shape.frame_nr (zero_slot shape)));
        given = ap (λ (s : PlainState). s.given) fresh;
        retired_none = ap (λ (s : PlainState). s.retired) fresh;
        passed = ap (λ (s : PlainState). s.taken) fresh;
        shown = ap (λ (s : PlainState). s.shown) fresh;
      };
    }
