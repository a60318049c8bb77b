-- The arrivals so far are summed.
use Rattle.std.proofs.Common.{◌≡◌, ◌*◌, ◌^◌, ◌≤◌, take}
use Rattle.tap_printing.specs.Lines.{arrivals_in}
use Rattle.tap_printing.proofs.cpu_lines.arrivals_in.Given as goal

abbrev pub invariant-loop-log : goal.invariant-loop-log
invariant-loop-log l = record {
  so_far : l.arrivals ≡ arrivals_in (take l.log-index l.logs);
  small : l.arrivals ≤ 2 ^ 63 * l.log-index;
}
