-- What a call returns, prints and saves, by what it found.
use Rattle.std.specs.Prelude.{◌≡◌, ◌⊎◌, ◌<◌, ◌≤◌, ◌+◌, ℕ, Bool, true, false, List, Option, None}
use Rattle.std.specs.Prelude.{Some}
use Rattle.std.specs.Prelude.{codes}
use Rattle.std.specs.Prelude.{IfOk, OnErr, Result}
use Rattle.std.specs.Io.KnownBytes.{Appends}
use Rattle.frame_view.specs.declared.memory.Memory.{Memory}
use Rattle.tap_outside.specs.Counts.{Rose, RoseBy}
use Rattle.tap_outside.specs.Records.{NoneOpen}
use Rattle.tap_outside.specs.Seen.{OnlyReads, SinkSeen, StoreSeen}
use Rattle.tap_outside.specs.Sinks.{AppendsFront}
use Rattle.tap_reading.specs.Fronts.{RanOut}
use Rattle.tap_saving.specs.Saves.{HoldAll, HoldUnless, NoSaveFailed, SavedSome, Touches, marked}
use Rattle.tap_running.specs.Prints.{IsLastLine, IsPrinted, PrintedSome}
use Rattle.tap_engine.specs.Commands.{Named}
use Rattle.tap_engine.specs.Findings.{IsFound, files_of, lines_of, names_of, report_in, status_of}
use Rattle.tap_engine.specs.Jobs.{IsAsked}
use Rattle.tap_engine.specs.declared.findings.CommandResult.{CommandResult}
use Rattle.tap_engine.specs.declared.outcomes.Outcome.{Outcome}
use Rattle.tap_engine.specs.declared.outcomes.Status.{Status}
use Rattle.tap_engine.specs.declared.outcomes.Status.TheVariants.{WriteFault}
use Rattle.tap_running.specs.Prints.{IsLastLine, IsPrinted, PrintedSome}

-- all lines were printed and all files saved
pub record IsDone (finding : CommandResult) (status : Status) (old new : StoreSeen)
    (before after : SinkSeen) : Type 0 where
  pub status_is : status ≡ status_of finding
  pub lines : Appends before.written after.written (lines_of finding)
  pub files : HoldAll old.held new.held (files_of finding)
  -- no save and no write failed
  pub saves : NoSaveFailed old new
  pub prints : after.faults ≡ before.faults

-- printing or saving failed: at most as many files fail to hold their bytes as saves failed
pub record IsFailed (finding : CommandResult) (status : Status) (old new : StoreSeen)
    (before after : SinkSeen) : Type 0 where
  pub status_is : status ≡ WriteFault
  pub printed : Bool
  pub lines : IsPrinted before after (lines_of finding) printed
  pub missed : List Bool
  pub files : HoldUnless missed old.held new.held (files_of finding)
  pub counted : RoseBy (marked missed) old.save_faults new.save_faults
  pub cause : (0 < marked missed) ⊎ (printed ≡ false)

-- the report is that of the finding, and nothing of the store changes except its files and the
-- count of failed saves
pub record Concludes (finding : CommandResult) (outcome : Outcome) (old new : StoreSeen)
    (before after : SinkSeen) : Type 0 where
  pub report : outcome.report ≡ report_in finding
  pub touches : Touches old new (names_of finding)
  pub ended :
      IsDone finding outcome.status old new before after
      ⊎ IsFailed finding outcome.status old new before after

-- what a call found while it only read the store, and what it made of that
pub record Tells (command : Option Named) (outcome : Outcome) (old new : StoreSeen)
    (before after : SinkSeen) : Type 0 where
  pub read : StoreSeen
  pub reads : OnlyReads old read
  -- each source that was opened is closed
  pub closed : NoneOpen old.sources read.sources
  pub finding : CommandResult
  pub found : IsFound command old read finding
  pub concludes : Concludes finding outcome read new before after

-- memory ran out before anything was found; before all texts were accepted no read failed, and
-- each source that was opened is closed
pub record IsCut (command : Option Named) (old new : StoreSeen) : Type 0 where
  pub reads : OnlyReads old new
  pub cause :
      RanOut old new
      ⊎ ((named : Named) × (command ≡ Some named) × IsAsked old.held named)

-- what a call found while it only read the store, or that memory ran out
pub record IsSearched (command : Option Named) (old new : StoreSeen)
    (answer : Result CommandResult Memory) : Type 0 where
  pub reads : OnlyReads old new
  pub found : IfOk answer (IsFound command old new)
  pub cut : OnErr answer (IsCut command old new)

-- memory ran out after this was found: each name of its files holds what it held, or the file's
-- bytes, except at most as many as saves failed, and a prefix of its lines was printed
pub record IsCutShort (command : Option Named) (old new : StoreSeen) (before after : SinkSeen)
    : Type 0 where
  pub read : StoreSeen
  pub reads : OnlyReads old read
  pub finding : CommandResult
  pub found : IsFound command old read finding
  pub touches : Touches read new (names_of finding)
  pub saved : SavedSome read new (files_of finding)
  pub printed : PrintedSome before after (lines_of finding)

-- memory ran out: before anything was found, and nothing was printed, or after that
abbrev pub IsStopped : Option Named → StoreSeen → StoreSeen → SinkSeen → SinkSeen → Type 0
IsStopped command old new before after =
    (IsCut command old new × (after ≡ before)) ⊎ IsCutShort command old new before after

-- there is no report, nothing else of the store has changed, and nothing else was printed except
-- the line that says so, whole unless the sink counted why not; before that line no write failed,
-- and with it one at most
pub record GivesUp (command : Option Named) (outcome : Outcome) (old new : StoreSeen)
    (before after : SinkSeen) : Type 0 where
  pub report : outcome.report ≡ None
  -- the sink before that line
  pub told : SinkSeen
  pub stopped : IsStopped command old new before told
  pub line : IsLastLine before told after
  pub kept : before.faults ≤ after.faults
  pub one : after.faults ≤ before.faults + 1
