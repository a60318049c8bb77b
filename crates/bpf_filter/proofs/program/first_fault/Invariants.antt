use Rattle.bpf_filter.proofs.Checks.{Checked}
use Rattle.bpf_filter.proofs.program.first_fault.Given as goal

abbrev pub invariant-loop-at : goal.invariant-loop-at
invariant-loop-at l = Checked l.code l.at
