-- The reads so far.
use Rattle.std.proofs.Common.{◌≡◌, ◌++◌}
use Rattle.made_captures.specs.Made.{read_lines}
use Rattle.made_captures.proofs.schedules.push_reads.Given as goal

abbrev pub invariant-loop-member : goal.invariant-loop-member
invariant-loop-member l = l.lines.items ≡ l.initial.lines.items ++ read_lines l.member
