use Rattle.std.proofs.Common.{length, ◌-◌}
use Rattle.bpf_filter.specs.inside.Machines.{state_of}
use Rattle.bpf_filter.specs.PacketFacts.{facts_of}
use Rattle.bpf_filter.proofs.Runs.{Goes}
use Rattle.bpf_filter.proofs.program.Program.verdict.Given as goal

abbrev pub invariant-loop-answer : goal.invariant-loop-answer
invariant-loop-answer l = Goes l.code l.at (facts_of l.packet) (state_of l.machine)

abbrev pub decreases-loop-answer : goal.decreases-loop-answer
decreases-loop-answer l = length l.code - l.at
