-- Everything that the call's answer guarantees.
use Rattle.std.specs.Prelude.{◌≡◌, ◌≢◌, Option}
use Rattle.tap_outside.specs.Seen.{SinkSeen, StoreSeen}
use Rattle.tap_sizes.specs.Complete.{IsComplete}
use Rattle.tap_sizes.specs.Endings.{GivesUp, IsFaultless, IsWorth, Tells}
use Rattle.tap_sizes.specs.SizeWords.{SizeNamed}
use Rattle.tap_sizes.specs.declared.outcomes.SizeOutcome.{SizeOutcome}
use Rattle.tap_sizes.specs.declared.outcomes.SizeStatus.TheVariants.{Memory}

-- what the call promises about its answer, its store and its sink, each a clause there
pub record IsAnswer (command : Option SizeNamed) (outcome : SizeOutcome) (old new : StoreSeen)
    (before after : SinkSeen) : Type 0 where
  pub headline : IsWorth command old new outcome.report
  pub told : outcome.status ≢ Memory → Tells command outcome old new before after
  pub gave_up : outcome.status ≡ Memory → GivesUp command outcome old new before after
  pub complete : IsComplete command old new before after outcome.status
  pub faultless : IsFaultless old new before after outcome.status
