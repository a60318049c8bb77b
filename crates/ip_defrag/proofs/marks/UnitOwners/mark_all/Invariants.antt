-- Those before the count are marked.
use Rattle.std.proofs.Common.{◌-◌, length}
use Rattle.ip_defrag.specs.Marks.{AreMarked}
use Rattle.ip_defrag.proofs.marks.UnitOwners.mark_all.Given as goal

abbrev pub invariant-loop-self : goal.invariant-loop-self
invariant-loop-self l = AreMarked l.self l.fragments

abbrev pub decreases-loop-self : goal.decreases-loop-self
decreases-loop-self l = length l.fragments - l.self.count
