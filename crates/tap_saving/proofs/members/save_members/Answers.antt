use Rattle.std.proofs.Common.{refl, rules, ◌∙◌}
use Rattle.std.specs.Prelude.{IsTrue, option_copied}
use Rattle.tap_saving.specs.Files.{files_from}
use Rattle.tap_saving.proofs.MissedFiles.{none_saved}
use Rattle.tap_saving.proofs.FileNames.{run_named, run_names, run_touched}
use Rattle.tap_saving.proofs.members.save_members.Goals as goal

pub returns-in_err-files-clause-early : goal.returns-in_err-files-clause-early
returns-in_err-files-clause-early g c =
    let files = files_from c.args.setup.now (option_copied c.args.forwards) 0 c.args.reports.now in
    let early = none_saved (g.S.Store.seen c.args.store.now) _ files refl in
    search rules

pub save_files-requires-clause-meant : goal.save_files-requires-clause-meant
save_files-requires-clause-meant g c κs within =
    run_named (λ name. IsTrue ((g.S.Store.seen c.args.store.now).to_save name)) c.args.setup.now
    (option_copied c.args.forwards) c.args.reports.now _
    (c.deref.ensures.value ∙ c.in_ok-files.ensures) c.requires.meant

pub save_files-requires-clause-own : goal.save_files-requires-clause-own
save_files-requires-clause-own g c κs within =
    run_names c.args.setup.now (option_copied c.args.forwards) c.args.reports.now _
    (c.deref.ensures.value ∙ c.in_ok-files.ensures) c.requires.few

pub returns-clause-touches : goal.returns-clause-touches
returns-clause-touches g c =
    run_touched c.args.setup.now (option_copied c.args.forwards) c.args.reports.now
    c.deref.result.now _ _ (c.deref.ensures.value ∙ c.in_ok-files.ensures)
    c.save_files.ensures.touches
