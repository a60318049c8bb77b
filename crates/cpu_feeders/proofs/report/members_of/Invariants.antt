use Rattle.std.proofs.Common.{◌≡◌, ◌++◌, length}
use Rattle.cpu_feeders.specs.Reports.{member_reports}
use Rattle.cpu_feeders.proofs.report.members_of.Given as goal

-- there is a ring and outputs for each member that is left
abbrev pub invariant-loop-notes : goal.invariant-loop-notes
invariant-loop-notes l = record {
  rings : length l.rings.items ≡ length l.notes-iterator.rest.items;
  outputs : length l.outputs.items ≡ length l.notes-iterator.rest.items;
  reported : l.members ++ member_reports l.notes-iterator.rest.items l.rings.items l.outputs.items
      ≡ member_reports l.fn.notes.items l.fn.rings.items l.fn.outputs.items;
}
