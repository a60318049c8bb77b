use Rattle.std.proofs.Common.{◌≡◌, ◌∙◌, List, ap, length, subst, sym}
use Rattle.std.specs.List.{AllByRecursion}
use Rattle.std.proofs.lemmas.List.{length-replicate}
use Rattle.receive_ring.proofs.SlotCalls.{fresh_end, one_kind}
use Rattle.slot_layout.specs.SlotShapes.{zero_slot}
use Rattle.tp_layout.specs.Requests.{numbers_of}
use Rattle.tp_layout.specs.BlockWrites.{ShapedBytes}
use Rattle.receive_ring.proofs.slot_rings.SlotProducerPlainRingSlotReceiveRing.open.Goals as goal

pub new-requires-clause-kind : goal.new-requires-clause-kind
new-requires-clause-kind c =
    let shape = c.args.shape.now in (
      numbers_of shape,
      subst (λ (slots : List ShapedBytes). AllByRecursion (λ slot. numbers_of slot.shape ≡ numbers_of shape) slots)
          (sym c.in_ok-slots.ensures) (one_kind shape shape.frame_nr),
    )

pub new-requires-2-clause-fresh : goal.new-requires-2-clause-fresh
new-requires-2-clause-fresh c =
    let shape = c.args.shape.now in
    let same = subst (λ (slots : List ShapedBytes). AllByRecursion (λ slot. numbers_of slot.shape ≡ numbers_of shape) slots)
    (sym c.in_ok-slots.ensures) (one_kind shape shape.frame_nr) in
    fresh_end shape _ _ c.in_ok-ring.ring c.in_ok-ring.ensures.fresh (c.in_ok-ring.ensures.kind (numbers_of shape) same)
    (ap (λ (slots : List ShapedBytes). length slots) c.in_ok-slots.ensures ∙ length-replicate shape.frame_nr (zero_slot shape))
