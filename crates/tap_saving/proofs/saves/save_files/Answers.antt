use Rattle.std.proofs.Common.{[], arith, rules, refl, sym}
use Rattle.tap_saving.proofs.MissedFiles.{first_more, first_saved, tried_some, tried_touch}
use Rattle.tap_saving.proofs.Stores.{touches_none}
use Rattle.tap_saving.proofs.saves.save_files.Goals as goal

pub loop-file-init : goal.loop-file-init
loop-file-init g c = record {
  within = omega arith;
  tried = record { answers = []; tried = refl; many_is = refl; all_is = refl };
  touches = touches_none _ _;
}

pub returns-in_err-saved-clause-early : goal.returns-in_err-saved-clause-early
returns-in_err-saved-clause-early g c =
    let early = tried_some _ _ _ c.args.files.now c.requires.own c.loop-file.invariant.tried.tried in
    search rules

pub returns-clause-saved : goal.returns-clause-saved
returns-clause-saved g c =
    first_saved _ _ c.args.files.now c.loop-file.file-index c.loop-file.all c.requires.own
    (omega arith) c.loop-file.invariant.tried

pub loop-file-preserved : goal.loop-file-preserved
loop-file-preserved g c =
    let more = first_more _ _ _ c.args.files.now c.loop-file.file-index c.file-item.result
    c.loop-file.all c.in_ok-saved.saved c.loop-file.invariant.tried (sym c.file-item.is)
    c.loop-file-test.true c.save.ensures.only c.in_ok-saved.ensures.tried in
    record {
      within = omega arith;
      tried = more;
      touches = tried_touch _ _ more.answers c.args.files.now more.tried;
    }
