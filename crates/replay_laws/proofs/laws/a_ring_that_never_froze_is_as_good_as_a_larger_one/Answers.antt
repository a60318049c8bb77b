use Rattle.replay_laws.proofs.LargerSteps.{blocks_agree, never_froze, slots_agree}
use Rattle.run_reports.specs.RingSteps.{block_steps}
use Rattle.run_reports.specs.RingSteps.{slot_steps}
use Rattle.replay_laws.proofs.laws.a_ring_that_never_froze_is_as_good_as_a_larger_one.Goals as goal

pub returns : goal.returns
returns c = record {
  blocks = λ rules size larger arriving lines h never.
      never_froze (block_steps size) (block_steps larger) (blocks_agree size larger h) rules arriving lines never;
  slots = λ rules size larger arriving lines h never.
      never_froze (slot_steps size) (slot_steps larger) (slots_agree size larger h) rules arriving lines never;
}
