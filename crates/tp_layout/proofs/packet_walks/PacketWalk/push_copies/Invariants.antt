use Rattle.std.proofs.Common.{◌≡◌, ◌++◌, length, take}
use Rattle.tp_layout.proofs.packet_walks.PacketWalk.push_copies.Given as goal

-- the copies so far follow what was there
abbrev pub invariant-loop-packet : goal.invariant-loop-packet
invariant-loop-packet l = record {
  copies : l.into.items ++ l.packet-iterator ≡ l.initial.into.items ++ l.fn.self;
  front : take (length l.initial.into.items) l.into.items ≡ l.initial.into.items;
}
