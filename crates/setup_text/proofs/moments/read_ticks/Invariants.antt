use Rattle.std.proofs.Common.{length, []}
use Rattle.text_lines.proofs.Readings.{Reads}
use Rattle.setup_text.specs.Moments.{added, latest, moment_in}
use Rattle.setup_text.proofs.moments.read_ticks.Given as goal

abbrev pub invariant-loop-line : goal.invariant-loop-line
invariant-loop-line l = Reads (added (λ moments line. moment_in (latest moments) line)) [] l.text l.moments l.number l.rest

abbrev pub decreases-loop-line : goal.decreases-loop-line
decreases-loop-line l = length l.rest
