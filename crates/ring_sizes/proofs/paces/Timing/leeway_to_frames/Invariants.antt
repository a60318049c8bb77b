use Rattle.std.proofs.Common.{◌≡◌, ◌+◌, ◌<◌, ◌^◌, drop}
use Rattle.ring_sizes.specs.Schedules.{tick_moment, ticks_by}
use Rattle.ring_sizes.proofs.Leeways.{GoesOn}
use Rattle.ring_sizes.proofs.paces.Timing.leeway_to_frames.Given as goal

abbrev pub invariant-loop-arrival : goal.invariant-loop-arrival
invariant-loop-arrival l = record {
  early : l.at < 2 ^ 53;
  later : l.at < l.next;
  next : l.next ≡ tick_moment l.self (ticks_by l.self l.at + 1);
  goes : GoesOn l.self l.end l.leeway l.at (drop l.arrival-index l.arrivals) l.arrivals;
}
