use Rattle.std.proofs.Common.{ℕ, List, refl, ap, ◌∙◌, subst}
use Rattle.tap_saving.proofs.MissedFiles.{none_saved}
use Rattle.tap_running.specs.Prints.{IsPrinted, PrintedSome}
use Rattle.tap_engine.proofs.Concluded.{early_of, ended_by, status_with}
use Rattle.tap_running.proofs.Results.{err_with}
use Rattle.tap_running.proofs.LastLines.{none_printed}
use Rattle.tap_engine.proofs.conclusion.save_and_print.Goals as goal

pub returns-in_err-lines-clause-early : goal.returns-in_err-lines-clause-early
returns-in_err-lines-clause-early g c = err_with _ _ (none_saved _ _ _ refl)

pub returns-in_err-printed-clause-early : goal.returns-in_err-printed-clause-early
returns-in_err-printed-clause-early g c =
    err_with _ _ (early_of _ _ _ _ c.in_ok-saved.saved c.save.ensures.touches
    c.in_ok-saved.ensures.saved)

pub returns-in_err-lines-clause-printed : goal.returns-in_err-lines-clause-printed
returns-in_err-lines-clause-printed g c = err_with _ _ (none_printed _ _)

pub returns-in_err-saved-clause-printed : goal.returns-in_err-saved-clause-printed
returns-in_err-saved-clause-printed g c = err_with _ _ (none_printed _ _)

pub returns-in_err-printed-clause-printed : goal.returns-in_err-printed-clause-printed
returns-in_err-printed-clause-printed g c =
    err_with _ _ (subst (λ (lines : List ℕ). PrintedSome (g.O.Sink.seen c.args.out.now)
    (g.O.Sink.seen c.print_lines.new.out) lines) (c.as_slice.ensures ∙ c.in_ok-lines.ensures)
    c.in_err-printed.ensures.cut)

pub returns-clause-ended : goal.returns-clause-ended
returns-clause-ended g c =
    let before = g.O.Sink.seen c.args.out.now in
    let after = g.O.Sink.seen c.print_lines.new.out in
    ended_by c.args.finding.now _ _ before after c.in_ok-saved.saved c.in_ok-printed.printed _
    c.in_ok-saved.ensures.saved
    (subst (λ (lines : List ℕ). IsPrinted before after lines c.in_ok-printed.printed)
    (c.as_slice.ensures ∙ c.in_ok-lines.ensures) c.in_ok-printed.ensures.told)
    (c.status_with.ensures ∙ ap (λ status. status_with c.in_ok-saved.saved c.in_ok-printed.printed
    status) c.status.ensures)
