use Rattle.std.proofs.Common.{length}
use Rattle.text_tests.proofs.lines_and_words.shown_words.Given as goal

abbrev pub decreases-loop-word : goal.decreases-loop-word
decreases-loop-word l = length l.rest
