use Rattle.std.proofs.Common.{◌≡◌, ◌≤◌, ◌++◌, length, drop}
use Rattle.std.specs.Prelude.{option_copied}
use Rattle.tap_saving.specs.Files.{files_from}
use Rattle.tap_saving.proofs.members.planned_files.Given as goal

-- the files so far, and those of the members still to come
abbrev pub invariant-loop-member : goal.invariant-loop-member
invariant-loop-member l =
    let forwards = option_copied l.forwards in
    record {
      within : l.member ≤ length l.reports;
      files : l.files.items ++ files_from l.setup forwards l.member (drop l.member l.reports)
          ≡ files_from l.setup forwards 0 l.reports;
    }
