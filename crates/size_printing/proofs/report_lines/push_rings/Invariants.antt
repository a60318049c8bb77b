-- The lines so far, with those that are left, are all.
use Rattle.std.proofs.Common.{◌≡◌, ◌++◌, drop}
use Rattle.size_printing.specs.SizeLines.{member_ring_lines}
use Rattle.size_printing.proofs.report_lines.push_rings.Given as goal

abbrev pub invariant-loop-member : goal.invariant-loop-member
invariant-loop-member l =
    l.text.items ++ member_ring_lines l.kind l.unit l.member (drop l.member l.members)
    ≡ l.initial.text.items ++ member_ring_lines l.kind l.unit 0 l.members
