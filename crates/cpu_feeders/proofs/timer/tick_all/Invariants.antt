use Rattle.std.proofs.Common.{take}
use Rattle.capture_reports.specs.Timers.{AreTimed}
use Rattle.cpu_feeders.proofs.timer.tick_all.Given as goal

abbrev pub invariant-loop-ms : goal.invariant-loop-ms
invariant-loop-ms g l = AreTimed (take l.ms-index l.moments) l.members l.member_seats.items
