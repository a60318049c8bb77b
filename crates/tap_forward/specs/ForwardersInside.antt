-- What the fields of a forwarder represent.
use Rattle.std.specs.Prelude.{◌≡◌, ◌*◌, ◌^◌, ◌≤◌, length, take, None}
use Rattle.reader_walk.specs.Readers.{walked_of}
use Rattle.tap_forward.specs.Forwarders.{ForwarderValue}
use Rattle.tap_forward.specs.Senders.{IsGoing, WasGiven}
use Rattle.tap_forward.specs.declared.forwarder.Forwarder.TheInside.{Inside}

abbrev pub forwarder_value : Inside → ForwarderValue
forwarder_value forwarder = record {
  shape = forwarder.reader.shape;
  tx = forwarder.sender.ring.shape;
  dumps = forwarder.reader.dumps;
  taken = forwarder.reader.taken;
}

-- what the fields keep. A block has fewer than 2^14 packets, so no count of packets overflows.
pub record IsSound (forwarder : Inside) : Type 0 where
  pub free : forwarder.reader.held ≡ None
  pub going : IsGoing forwarder.sender.ring
  pub within : forwarder.given ≤ length (walked_of forwarder.reader.taken)
  pub given : WasGiven (take forwarder.given (walked_of forwarder.reader.taken)) forwarder.sender
  pub blocks : length forwarder.reader.taken ≤ 2 ^ 40
  pub packets : length (walked_of forwarder.reader.taken) ≤ 16383 * length forwarder.reader.taken
