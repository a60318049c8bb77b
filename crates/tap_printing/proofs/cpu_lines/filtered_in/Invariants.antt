-- The filtered arrivals so far are summed.
use Rattle.std.proofs.Common.{◌≡◌, ◌*◌, ◌^◌, ◌≤◌, take}
use Rattle.tap_printing.specs.Lines.{filtered_in}
use Rattle.tap_printing.proofs.cpu_lines.filtered_in.Given as goal

abbrev pub invariant-loop-log : goal.invariant-loop-log
invariant-loop-log l = record {
  so_far : l.filtered ≡ filtered_in (take l.log-index l.logs);
  small : l.filtered ≤ 2 ^ 63 * l.log-index;
}
