use Rattle.std.proofs.Common.{length}
use Rattle.text_lines.proofs.Readings.{Reads}
use Rattle.reader_pace.specs.Drafts.{line_after, nothing_said}
use Rattle.reader_pace.proofs.readers.draft_of.Given as goal

abbrev pub invariant-loop-line : goal.invariant-loop-line
invariant-loop-line l = Reads (line_after l.bounds) nothing_said l.text l.draft l.number l.rest

abbrev pub decreases-loop-line : goal.decreases-loop-line
decreases-loop-line l = length l.rest
