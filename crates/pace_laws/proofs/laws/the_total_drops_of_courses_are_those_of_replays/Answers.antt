use Rattle.pace_laws.proofs.BlockAnswers.{are_total_drops}
use Rattle.pace_laws.proofs.laws.the_total_drops_of_courses_are_those_of_replays.Goals as goal

pub returns : goal.returns
returns c = record {
  most = λ sizing pace tries found blocks rolls h tried soon some most.
      are_total_drops sizing pace h tries tried soon _ _ rolls blocks found some most;
  fewest = λ sizing pace tries found blocks rolls h tried soon some fewest.
      are_total_drops sizing pace h tries tried soon _ _ rolls blocks found some fewest;
}
