use Rattle.std.proofs.Common.{◌≡◌, ◌≤◌, drop, length}
use Rattle.tap_engine.specs.Findings.{status_of_logs}
use Rattle.tap_engine.proofs.findings.status_of_ends.Given as goal

abbrev pub invariant-loop-cpu : goal.invariant-loop-cpu
invariant-loop-cpu l = (l.status ≡ status_of_logs l.cpu (drop l.cpu l.logs))
    × (l.cpu ≤ length l.logs)

abbrev pub decreases-loop-cpu : goal.decreases-loop-cpu
decreases-loop-cpu l = l.cpu
