use Rattle.std.proofs.Common.{inl, inr}
use Rattle.replay_laws.proofs.Rollovers.{stand_alone}
use Rattle.replay_laws.proofs.laws.nothing_rolls_over_while_nothing_is_held.Goals as goal

pub returns : goal.returns
returns c = record {
  alone = λ rules steps arriving lines free. stand_alone rules steps arriving lines (inl free);
  group = λ rules steps arriving lines free. stand_alone rules steps arriving lines (inr free);
}
