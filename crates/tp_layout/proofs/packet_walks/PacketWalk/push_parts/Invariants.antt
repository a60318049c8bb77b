use Rattle.std.proofs.Common.{◌≡◌, ◌+◌, ◌++◌, ◌≤◌, length, take, drop, vec_len, vec_capacity}
use Rattle.tp_layout.specs.Checks.{PassesTests}
use Rattle.tp_layout.specs.Faults.{packets_in}
use Rattle.tp_layout.specs.Readers.{data_of}
use Rattle.tp_layout.proofs.packet_walks.PacketWalk.push_parts.Given as goal

-- the copies so far follow what was there, and from `from` on the piece has the data of the packets
-- that are left, for which there is room
abbrev pub invariant-loop-left : goal.invariant-loop-left
invariant-loop-left l = record {
  passes : PassesTests l.left l.rest;
  copies : l.into.items ++ packets_in l.left l.rest ≡ l.initial.into.items ++ l.fn.self;
  front : take (length l.initial.into.items) l.into.items ≡ l.initial.into.items;
  room : vec_len l.into + l.left ≤ vec_capacity l.into;
  within : l.from ≤ length l.piece;
  joined : drop l.from l.piece ≡ data_of (packets_in l.left l.rest);
}

abbrev pub decreases-loop-left : goal.decreases-loop-left
decreases-loop-left l = l.left
