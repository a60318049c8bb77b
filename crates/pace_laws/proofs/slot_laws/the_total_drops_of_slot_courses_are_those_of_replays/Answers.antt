use Rattle.pace_laws.proofs.SlotAnswers.{are_total_drops}
use Rattle.pace_laws.proofs.slot_laws.the_total_drops_of_slot_courses_are_those_of_replays.Goals as goal

pub returns : goal.returns
returns c = record {
  most = λ sizing pace tries found slots rolls h tried soon most.
      are_total_drops sizing pace h tries tried soon _ _ rolls slots found most;
  fewest = λ sizing pace tries found slots rolls h tried soon fewest.
      are_total_drops sizing pace h tries tried soon _ _ rolls slots found fewest;
}
