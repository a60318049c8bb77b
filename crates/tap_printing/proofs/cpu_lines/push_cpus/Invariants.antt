-- The lines so far, with those that are left, are all.
use Rattle.std.proofs.Common.{◌≡◌, ◌++◌, drop}
use Rattle.tap_printing.specs.Lines.{cpu_lines}
use Rattle.tap_printing.proofs.cpu_lines.push_cpus.Given as goal

abbrev pub invariant-loop-cpu : goal.invariant-loop-cpu
invariant-loop-cpu l = l.text.items ++ cpu_lines l.cpu (drop l.cpu l.logs) ≡ l.initial.text.items ++ cpu_lines 0 l.logs
