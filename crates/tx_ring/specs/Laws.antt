-- What the laws of this crate say.
use Rattle.std.specs.Prelude.{◌≡◌, ℕ, nat_lt, if◌then◌else◌, List, [], length, Err}
use Rattle.tx_ring.specs.Rings.{TxState, place_answer, room_of}
use Rattle.tx_ring.specs.Sends.{after_send, packets_sent, send_answer}
use Rattle.tx_ring.specs.declared.error.SendError.TheVariants.{BadSlot}
use Rattle.tx_ring.specs.declared.error.TxError.TheVariants.{TooLong, Stopped}

-- a ring that stopped at a slot: a send reports that slot, sends nothing and changes nothing, and a
-- place is refused
pub record HasStoppedAt (slot : ℕ) (ring : TxState) : Type 0 where
  pub answer : send_answer ring ≡ Err (BadSlot slot)
  pub same : after_send ring ≡ ring
  pub none : packets_sent ring ≡ []
  pub refused : (bytes : List ℕ)
      → place_answer ring bytes
      ≡ (if nat_lt (room_of ring.shape) (length bytes) then Err TooLong else Err (Stopped slot))
