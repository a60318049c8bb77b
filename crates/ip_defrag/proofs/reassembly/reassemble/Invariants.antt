-- What came out so far, and what comes out of the rest.
use Rattle.std.proofs.Common.{◌≡◌, [], ◌++◌, length}
use Rattle.ip_defrag.specs.Fold.{passed}
use Rattle.ip_defrag.proofs.reassembly.reassemble.Given as goal

abbrev pub invariant-loop-frame : goal.invariant-loop-frame
invariant-loop-frame l = l.out ++ passed l.defrag l.waiting.items ≡ passed [] l.fn.frames

abbrev pub decreases-loop-frame : goal.decreases-loop-frame
decreases-loop-frame l = length l.waiting.items
