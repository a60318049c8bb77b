-- Everything that a call's answer guarantees.
use Rattle.std.specs.Prelude.{◌≡◌, ◌≢◌, Option}
use Rattle.tap_outside.specs.Seen.{SinkSeen, StoreSeen}
use Rattle.tap_engine.specs.Commands.{Named}
use Rattle.tap_engine.specs.Complete.{IsComplete}
use Rattle.tap_engine.specs.Conclusions.{GivesUp, Tells}
use Rattle.tap_engine.specs.Faults.{IsFaultless}
use Rattle.tap_engine.specs.Headline.{IsWorth}
use Rattle.tap_engine.specs.InnerErrors.{HoldsNoMemory}
use Rattle.tap_engine.specs.declared.outcomes.Outcome.{Outcome}
use Rattle.tap_engine.specs.declared.outcomes.Status.TheVariants.{Memory}

-- what the calls promise about their answer, their store and their sink, each a clause there
pub record IsAnswer (command : Option Named) (outcome : Outcome) (old new : StoreSeen)
    (before after : SinkSeen) : Type 0 where
  pub headline : IsWorth command old new outcome.report
  pub told : outcome.status ≢ Memory → Tells command outcome old new before after
  pub gave_up : outcome.status ≡ Memory → GivesUp command outcome old new before after
  pub no_memory : HoldsNoMemory outcome
  pub complete : IsComplete command old new before after outcome.status
  pub faultless : IsFaultless old new before after outcome.status
