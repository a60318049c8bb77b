use Rattle.std.proofs.Common.{length}
use Rattle.text_tests.proofs.lines_and_words.shown_lines.Given as goal

abbrev pub decreases-loop-line : goal.decreases-loop-line
decreases-loop-line l = length l.rest
