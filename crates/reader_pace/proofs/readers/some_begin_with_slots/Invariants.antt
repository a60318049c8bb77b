-- No line so far begins with the word.
use Rattle.std.proofs.Common.{◌≡◌, length}
use Rattle.text_lines.specs.Lines.{lines_of}
use Rattle.reader_pace.specs.ReaderWords.{some_begin_with_slots}
use Rattle.reader_pace.proofs.readers.some_begin_with_slots.Given as goal

abbrev pub invariant-loop-line : goal.invariant-loop-line
invariant-loop-line l = some_begin_with_slots (lines_of l.text) ≡ some_begin_with_slots (lines_of l.rest)

abbrev pub decreases-loop-line : goal.decreases-loop-line
decreases-loop-line l = length l.rest
