use Rattle.std.proofs.Common.{◌≤◌, length}
use Rattle.tap_saving.specs.Saves.{Touches}
use Rattle.tap_saving.specs.inside.Plans.{names_of}
use Rattle.tap_saving.proofs.MissedFiles.{TriedFirst}
use Rattle.tap_saving.proofs.saves.save_files.Given as goal

-- the files so far were tried, and no other name was touched
abbrev pub invariant-loop-file : goal.invariant-loop-file
invariant-loop-file g l =
    let old = g.S.Store.seen l.fn.store in
    let new = g.S.Store.seen l.store in
    record {
      within : l.file-index ≤ length l.files;
      tried : TriedFirst old new l.files l.file-index l.all;
      touches : Touches old new (names_of l.files);
    }
