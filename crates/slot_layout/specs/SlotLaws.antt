-- The definitions that the laws of this crate use.
use Rattle.std.specs.Prelude.{◌≡◌, ℕ}
use Rattle.frame_view.specs.declared.frames.Packet.{Packet}
use Rattle.tp_layout.specs.declared.requests.RingRequest.{RingRequest}
use Rattle.slot_layout.specs.SlotTexts.{IsLawfulSlot, slot_text}

-- what a slot says: its status, its packet
pub record SlotSaid : Type 0 where
  pub status : ℕ
  pub packet : Packet

-- two lawful texts of slots that are equal
pub record HaveOneSlotText (shape : RingRequest) (first second : SlotSaid) : Type 0 where
  pub lawful : IsLawfulSlot shape first.status first.packet
  pub other : IsLawfulSlot shape second.status second.packet
  pub same : slot_text first.status first.packet ≡ slot_text second.status second.packet
