-- The trace has the frames that are held after the pass.
use Rattle.ip_defrag.specs.Fold.{pass}
use Rattle.ip_defrag.proofs.defrag.Defrag.push.Given as goal

abbrev pub ghost-of : goal.ghost-of
ghost-of a = (pass a._one.now.items a._other.now).held
