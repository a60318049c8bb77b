use Rattle.std.proofs.Common.{List, ap, ◌∙◌, arith}
use Rattle.tx_ring.specs.Slots.{SlotState, slot_at, slot_text}
use Rattle.tx_ring.proofs.Pieces.{each_sound, shown, unwritten, within_bytes}
use Rattle.tx_ring.proofs.slots.Slots.slot.Goals as goal

pub piece_of-requires : goal.piece_of-requires
piece_of-requires c =
    rw (c.frame_size-size.ensures.value, c.as_slice.ensures.value) (within_bytes c.args.at c.self.invariant (omega arith))

pub returns-then-at-self-clause-value : goal.returns-then-at-self-clause-value
returns-then-at-self-clause-value c =
    c.piece_of.ensures
    ∙ rw (c.frame_size-size.ensures.value, c.as_slice.ensures.value) (shown c.args.at c.self.invariant (omega arith))
    ∙ ap (λ (slots : List SlotState). slot_text (slot_at slots c.args.at)) c.self.view_is

pub returns-then-at-self-clause-sound : goal.returns-then-at-self-clause-sound
returns-then-at-self-clause-sound c = each_sound c.args.at c.self.invariant c.self.view_is c.requires

pub returns-else-at-self-clause-value : goal.returns-else-at-self-clause-value
returns-else-at-self-clause-value c = unwritten c.args.at c.self.invariant c.self.view_is (omega arith) c.requires

pub returns-else-at-self-clause-sound : goal.returns-else-at-self-clause-sound
returns-else-at-self-clause-sound c = each_sound c.args.at c.self.invariant c.self.view_is c.requires
