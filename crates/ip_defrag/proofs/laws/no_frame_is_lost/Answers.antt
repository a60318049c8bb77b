use Rattle.ip_defrag.proofs.Passed.{lost}
use Rattle.ip_defrag.proofs.laws.no_frame_is_lost.Goals as goal

pub returns : goal.returns
returns c = λ held frame none. lost held frame none
