use Rattle.std.proofs.Common.{◌≡◌, length, []}
use Rattle.text_lines.proofs.Readings.{Reads}
use Rattle.setup_text.specs.Moments.{added}
use Rattle.setup_text.specs.Schedules.{clock_of, line_in}
use Rattle.setup_text.proofs.schedules.read_schedule.Given as goal

abbrev pub invariant-loop-line : goal.invariant-loop-line
invariant-loop-line l = record {
  reads : Reads (added (λ lines line. line_in l.cpus l.members (clock_of lines) line)) [] l.text l.lines l.number l.rest;
  clock : l.clock ≡ clock_of l.lines;
}

abbrev pub decreases-loop-line : goal.decreases-loop-line
decreases-loop-line l = length l.rest
