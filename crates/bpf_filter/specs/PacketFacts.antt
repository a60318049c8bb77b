-- What a filter sees of a packet, as plain numbers.
use Rattle.std.specs.Prelude.{ℕ, List}
use Rattle.bpf_filter.specs.declared.packets.Seen.{Seen}

pub record PacketFacts : Type 0 where
  -- the captured bytes
  pub bytes : List ℕ
  -- the length on the wire
  pub wire : ℕ
  pub protocol : ℕ
  pub pkttype : ℕ
  pub queue : ℕ
  pub rxhash : ℕ
  pub cpu : ℕ

-- what the code's packet shows
abbrev pub facts_of : Seen → PacketFacts
facts_of seen = record {
  bytes = seen.bytes.now;
  wire = seen.wire;
  protocol = seen.protocol;
  pkttype = seen.pkttype;
  queue = seen.queue;
  rxhash = seen.rxhash;
  cpu = seen.cpu;
}
