-- The status of the files from this one on.
use Rattle.std.proofs.Common.{◌≡◌, ◌≤◌, drop, length}
use Rattle.tap_sizes.specs.SizeFindings.{status_of_files}
use Rattle.tap_sizes.proofs.size_findings.status_of_files.Given as goal

abbrev pub invariant-loop-file : goal.invariant-loop-file
invariant-loop-file l = (l.status ≡ status_of_files (drop l.file l.files) l.initial.status)
    × (l.file ≤ length l.files)

abbrev pub decreases-loop-file : goal.decreases-loop-file
decreases-loop-file l = l.file
