-- A member whose reader was handed fewer blocks or slots than its ring has dropped nothing.
use Rattle.std.proofs.Common.{◌≡◌, ℕ, ◌<◌, Bool, List, [], length, arith}
use Rattle.ring_model.specs.Fates.{drops_of}
use Rattle.ring_model.specs.Ring.{IsRun, Size, first_state, state_of}
use Rattle.ring_model.specs.declared.notes.Note.{Note}
use Rattle.run_reports.specs.Members.{DropsNoneBelow, IsMember}
use Rattle.run_reports.specs.RingRules.{rules_by}
use Rattle.run_reports.specs.declared.reports.MemberReport.{MemberReport}
use Rattle.run_reports.specs.declared.ring_kind.RingKind.{RingKind}
use Rattle.run_reports.specs.declared.ring_kind.RingKind.TheVariants.{Blocks, Slots}
use Rattle.slot_layout.specs.SlotSteps.{IsSlotRun, first_slot_state, slot_state_of}
use Rattle.tp_layout.specs.Requests.{size_of}
use Rattle.tp_layout.specs.declared.requests.RingRequest.{RingRequest}

-- the laws of both kinds of ring
abbrev pub BlocksLeft : Type 0
BlocksLeft = (size : Size) (notes : List Note) → IsRun size (first_state size) notes
    → length (state_of size notes).done < size.blocks → drops_of notes ≡ []

abbrev pub SlotsLeft : Type 0
SlotsLeft = (slots : ℕ) (notes : List Note) → IsSlotRun slots first_slot_state notes
    → length (slot_state_of notes).done < slots → drops_of notes ≡ []

pub none_dropped : BlocksLeft → SlotsLeft → (kind : RingKind) (shape : RingRequest) (asked : Bool) (member : MemberReport)
    → IsMember (rules_by kind shape) asked member → DropsNoneBelow (rules_by kind shape).places member
none_dropped blocks slots Blocks shape asked member is few =
    blocks (size_of shape) member.notes is.run.run (omega (arith, is.blocks, few))
none_dropped blocks slots Slots shape asked member is few =
    slots shape.frame_nr member.notes is.run.run (omega (arith, is.blocks, few))
