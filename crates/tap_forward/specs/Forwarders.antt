-- A forwarder, by the blocks that it has read.
use Rattle.std.specs.Prelude.{ℕ, Bool, List, [], ◌∷◌, ◌++◌, None}
use Rattle.reader_walk.specs.Readers.{number_of_flag, outputs_of, walked_of}
use Rattle.reader_walk.specs.Takers.{Base}
use Rattle.tp_layout.specs.Layouts.{Taken, taken_in}
use Rattle.tp_layout.specs.Requests.{numbers_of}
use Rattle.tp_layout.specs.declared.requests.RingRequest.{RingRequest}
use Rattle.tx_ring.specs.Rings.{room_of}
use Rattle.tap_forward.specs.Forwards.{sent_of, skipped_of}
use Rattle.tap_forward.specs.declared.forwarder.Forwarded.{Forwarded}

pub record ForwarderValue : Type 0 where
  -- the shape of the blocks that it reads, and that of the ring through which it sends
  pub shape : RingRequest
  pub tx : RingRequest
  -- whether it keeps the texts of its blocks
  pub dumps : Bool
  -- the blocks that it has read
  pub taken : List Taken

-- a new forwarder
abbrev pub new_forwarder : RingRequest → RingRequest → Bool → ForwarderValue
new_forwarder shape tx dump = record { shape = shape; tx = tx; dumps = dump; taken = [] }

-- it has read a block of these bytes
abbrev pub has_forwarded : List ℕ → ForwarderValue → ForwarderValue
has_forwarded bytes forwarder = record forwarder {
  taken = forwarder.taken ++ taken_in forwarder.shape bytes ∷ [];
}

-- what no block changes of a forwarder: its two shapes, and whether it keeps texts
abbrev pub base_of : ForwarderValue → Base
base_of forwarder = record {
  shape = forwarder.shape;
  further = number_of_flag forwarder.dumps ∷ numbers_of forwarder.tx;
}

-- what a forwarder leaves: what a reader of its blocks returns, and what is sent and skipped of
-- their packets
abbrev pub forwarded_of : ForwarderValue → Forwarded
forwarded_of forwarder = record {
  outputs = outputs_of (record {
    shape = forwarder.shape;
    dumps = forwarder.dumps;
    taken = forwarder.taken;
    held = None;
  });
  sent = sent_of (room_of forwarder.tx) (walked_of forwarder.taken);
  skipped = skipped_of (room_of forwarder.tx) (walked_of forwarder.taken);
}
