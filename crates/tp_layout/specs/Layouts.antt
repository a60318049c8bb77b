-- What is read from a block, and the text of that.
use Rattle.std.specs.Prelude.{ℕ, List}
use Rattle.frame_view.specs.declared.frames.Packet.{Packet}
use Rattle.tp_layout.specs.Blocks.{block_text}
use Rattle.tp_layout.specs.Faults.{packets_of}
use Rattle.tp_layout.specs.Rows.{number_at}
use Rattle.tp_layout.specs.declared.requests.RingRequest.{RingRequest}

-- a block or a slot that was read: its number, which is 0 for a slot, the status that it was
-- retired with, its packets
pub record Taken : Type 0 where
  pub number : ℕ
  pub status : ℕ
  pub packets : List Packet

-- what is read from a block that begins with a text
unfoldable pub taken_in : RingRequest → List ℕ → Taken
taken_in shape bytes = record {
  number = number_at 8 24 bytes;
  status = number_at 4 8 bytes;
  packets = packets_of shape bytes;
}

-- the text of a block that was read
abbrev pub text_of_taken : RingRequest → Taken → List ℕ
text_of_taken shape block = block_text shape block.number block.status block.packets
