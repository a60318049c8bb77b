use Rattle.std.proofs.Common.{◌≡◌, ◌-◌}
use Rattle.tp_layout.specs.Rows.{first_fault, zeros}
use Rattle.tp_layout.proofs.checks.check_zeros.Given as goal

-- the first fault of what is left to test is the first of all
abbrev pub invariant-loop-at : goal.invariant-loop-at
invariant-loop-at l =
    first_fault l.base l.at (zeros l.at (l.to - l.at)) l.bytes
    ≡ first_fault l.base l.from (zeros l.from (l.to - l.from)) l.bytes
