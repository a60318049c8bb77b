use Rattle.ring_words.proofs.EndMoves.{takes_front}
use Rattle.ring_words.proofs.tables.table_front_holds.Goals as goal

pub returns : goal.returns
returns g c = λ sample state rule. takes_front g.B.Content.bytes g.B.Content.kind g.B.Content.ready _ state rule
