-- The lines so far, with those that are left, are all.
use Rattle.std.proofs.Common.{◌≡◌, ◌++◌, drop}
use Rattle.size_printing.specs.SizeLines.{file_lines}
use Rattle.size_printing.proofs.report_lines.push_files.Given as goal

abbrev pub invariant-loop-file : goal.invariant-loop-file
invariant-loop-file l =
    l.text.items ++ file_lines (drop l.file-index l.files)
    ≡ l.initial.text.items ++ file_lines l.files
