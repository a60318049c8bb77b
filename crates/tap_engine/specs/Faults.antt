-- The faults that the outside counted.
use Rattle.std.specs.Prelude.{◌≡◌, ◌≢◌, ℕ, IsTrue}
use Rattle.tap_outside.specs.Counts.{RoseBy}
use Rattle.tap_outside.specs.Seen.{NoReadFailed, SinkSeen, StoreSeen}
use Rattle.tap_saving.specs.Saves.{NoSaveFailed}
use Rattle.tap_engine.specs.declared.outcomes.Status.{Status}
use Rattle.tap_engine.specs.declared.outcomes.Status.TheVariants.{Memory, ReadFault, WriteFault}

-- no fault was counted: the counts of an exact store and that of the sink are unchanged
pub record NoneCounted (old new : StoreSeen) (before after : SinkSeen) : Type 0 where
  pub reads : IsTrue old.exact → new.read_faults ≡ old.read_faults
  pub saves : NoSaveFailed old new
  pub prints : after.faults ≡ before.faults

-- if a fault was counted the status is 5, 6 or 7
abbrev pub IsFaultless : StoreSeen → StoreSeen → SinkSeen → SinkSeen → Status → Type 0
IsFaultless old new before after status =
    status ≢ ReadFault → status ≢ WriteFault → status ≢ Memory → NoneCounted old new before after
