-- A transmit ring that packets are given to, with what it has sent.
use Rattle.std.specs.Prelude.{◌≡◌, ◌<◌, ◌≤◌, false, true, List, ◌++◌, length, None}
use Rattle.std.specs.List.{AllByRecursion}
use Rattle.frame_view.specs.declared.frames.Packet.{Packet}
use Rattle.tx_ring.specs.Rings.{TxState, room_of}
use Rattle.tx_ring.specs.Sends.{is_good, packets_of}
use Rattle.tap_forward.specs.Forwards.{sent_of, skipped_of}
use Rattle.tap_forward.specs.declared.sender.Sender.{Sender}

-- a ring with slots that hasn't stopped and won't stop: all its requests are good
pub record IsGoing (ring : TxState) : Type 0 where
  pub some : 0 < ring.shape.frame_nr
  pub strict : ring.skip_bad ≡ false
  pub going : ring.stopped ≡ None
  pub good : AllByRecursion (λ request. is_good (room_of ring.shape) request ≡ true) ring.requests

-- a sender was given these packets: what it has sent and what is still requested is what is sent of
-- them, in order, and it has counted the others
pub record WasGiven (given : List Packet) (sender : Sender) : Type 0 where
  pub sent : sender.sent ++ packets_of (room_of sender.ring.shape) sender.ring.requests
      ≡ sent_of (room_of sender.ring.shape) given
  pub skipped : sender.skipped ≡ skipped_of (room_of sender.ring.shape) given
  pub few : sender.ring.placed ≤ length given
