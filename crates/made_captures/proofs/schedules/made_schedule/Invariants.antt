-- The lines so far are those of a schedule of that number of frames.
use Rattle.std.proofs.Common.{◌≡◌}
use Rattle.made_captures.specs.Made.{made_lines}
use Rattle.made_captures.proofs.schedules.made_schedule.Given as goal

abbrev pub invariant-loop-index : goal.invariant-loop-index
invariant-loop-index l = l.lines.items ≡ made_lines l.index l.cpus l.members
