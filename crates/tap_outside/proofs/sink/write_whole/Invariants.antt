use Rattle.std.proofs.Common.{◌≡◌, length, take, ◌-◌, ◌≤◌}
use Rattle.std.specs.Io.KnownBytes.{Appends}
use Rattle.tap_outside.proofs.sink.write_whole.Given as goal

-- this prefix is written, and no fault was counted
abbrev pub invariant-loop-at : goal.invariant-loop-at
invariant-loop-at g l =
    (l.at ≤ length l.bytes)
    × Appends (g.S.Sink.seen l.initial.sink).written (g.S.Sink.seen l.sink).written
    (take l.at l.bytes)
    × ((g.S.Sink.seen l.sink).faults ≡ (g.S.Sink.seen l.initial.sink).faults)
    × ((g.S.Sink.seen l.sink).refused ≡ (g.S.Sink.seen l.initial.sink).refused)

abbrev pub decreases-loop-at : goal.decreases-loop-at
decreases-loop-at g l = length l.bytes - l.at
