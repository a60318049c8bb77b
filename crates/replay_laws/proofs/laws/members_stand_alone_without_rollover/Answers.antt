use Rattle.std.proofs.Common.{◌∙◌}
use Rattle.run_reports.specs.RingSteps.{block_steps}
use Rattle.replay_laws.specs.Alone.{dealt}
use Rattle.replay_laws.proofs.Alone.{all_as_blocks, stands_alone}
use Rattle.replay_laws.proofs.laws.members_stand_alone_without_rollover.Goals as goal

pub returns : goal.returns
returns c = record {
  steps = λ rules steps arriving lines rolls. stands_alone steps rules rolls arriving lines;
  blocks = λ rules size arriving lines rolls.
      stands_alone (block_steps size) rules rolls arriving lines ∙ all_as_blocks size (dealt rules size.room arriving lines);
}
