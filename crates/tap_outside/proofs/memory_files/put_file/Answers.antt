use Rattle.std.proofs.Common.{sym, ◌∙◌}
use Rattle.tap_outside.proofs.FileLists.{PutsFile-set, PutsFile-push}
use Rattle.tap_outside.proofs.memory_files.put_file.Goals as goal

pub returns-in-Some-clause-ok : goal.returns-in-Some-clause-ok
returns-in-Some-clause-ok c =
    let found = sym c.place_of.ensures ∙ c.in-Some.is in
    PutsFile-set _ _ _ (rw (c.name.ensures, c.as_slice.ensures.value) at found)

pub returns-in_ok-push-in-None-clause-ok : goal.returns-in_ok-push-in-None-clause-ok
returns-in_ok-push-in-None-clause-ok c =
    let absent = sym c.place_of.ensures ∙ c.in-None.is in
    rw c.in_ok-push-in-None.ensures.items
    (PutsFile-push _ _ (rw (c.name.ensures, c.as_slice.ensures.value) at absent))
