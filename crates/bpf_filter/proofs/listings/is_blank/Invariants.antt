use Rattle.std.proofs.Common.{◌≡◌, length}
use Rattle.text_lines.specs.Lines.{lines_of}
use Rattle.bpf_filter.specs.Listings.{are_blank}
use Rattle.bpf_filter.proofs.listings.is_blank.Given as goal

abbrev pub invariant-loop-line : goal.invariant-loop-line
invariant-loop-line l = are_blank (lines_of l.rest) ≡ are_blank (lines_of l.text)

abbrev pub decreases-loop-line : goal.decreases-loop-line
decreases-loop-line l = length l.rest
