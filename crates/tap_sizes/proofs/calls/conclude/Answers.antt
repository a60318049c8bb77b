use Rattle.std.proofs.Common.{ℕ, List, ap, ◌∙◌, subst}
use Rattle.tap_running.proofs.LastLines.{none_printed}
use Rattle.tap_running.proofs.Results.{err_with}
use Rattle.tap_running.specs.Prints.{IsPrinted, PrintedSome}
use Rattle.tap_sizes.specs.Endings.{status_with}
use Rattle.tap_sizes.proofs.calls.conclude.Goals as goal

pub returns-in_err-lines-clause-printed : goal.returns-in_err-lines-clause-printed
returns-in_err-lines-clause-printed g c = err_with _ _ (none_printed _ _)

pub returns-in_err-printed-clause-printed : goal.returns-in_err-printed-clause-printed
returns-in_err-printed-clause-printed g c =
    err_with _ _ (subst (λ (lines : List ℕ). PrintedSome (g.O.Sink.seen c.args.out.now)
    (g.O.Sink.seen c.print_lines.new.out) lines) (c.as_slice.ensures ∙ c.in_ok-lines.ensures)
    c.in_err-printed.ensures.cut)

pub returns-clause-concluded : goal.returns-clause-concluded
returns-clause-concluded g c = record {
  printed = c.in_ok-printed.printed;
  lines = subst (λ (lines : List ℕ). IsPrinted (g.O.Sink.seen c.args.out.now)
      (g.O.Sink.seen c.print_lines.new.out) lines c.in_ok-printed.printed)
      (c.as_slice.ensures ∙ c.in_ok-lines.ensures) c.in_ok-printed.ensures.told;
  status_is = c.status_with-status.ensures
      ∙ ap (λ status. status_with c.in_ok-printed.printed status) c.status.ensures;
  report_is = c.into_report.ensures;
}
