use Rattle.std.proofs.Common.{length}
use Rattle.bpf_filter.proofs.Listed.{Listed}
use Rattle.bpf_filter.proofs.listings.instructions.Given as goal

abbrev pub invariant-loop-line : goal.invariant-loop-line
invariant-loop-line l = Listed l.text l.code.items l.number l.rest

abbrev pub decreases-loop-line : goal.decreases-loop-line
decreases-loop-line l = length l.rest
