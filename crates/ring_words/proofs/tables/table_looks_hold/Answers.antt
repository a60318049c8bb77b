use Rattle.ring_words.proofs.EndMoves.{looks_hold}
use Rattle.ring_words.proofs.LooksFound.{looks_are_true, visits_are_true}
use Rattle.ring_words.proofs.tables.table_looks_hold.Goals as goal

pub returns : goal.returns
returns g c = record {
  looks = λ sample before after rule rule'.
      looks_are_true g.B.Content.bytes g.B.Content.kind g.B.Content.ready _ before after rule rule';
  visits = λ sample before after rule rule'.
      visits_are_true g.B.Content.bytes g.B.Content.kind g.B.Content.ready _ before after rule rule';
  seen = λ sample state rule. looks_hold g.B.Content.bytes g.B.Content.kind g.B.Content.ready _ state rule;
}
