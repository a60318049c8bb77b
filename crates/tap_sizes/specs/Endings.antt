-- What the call returns and prints, by what it found.
use Rattle.std.specs.Prelude.{◌≡◌, ◌≢◌, ◌⊎◌, ℕ, ◌≤◌, ◌+◌, Bool, Option, None, Some}
use Rattle.std.specs.Prelude.{if◌then◌else◌, IfOk, IfSome, IsTrue, OnErr, Result}
use Rattle.frame_view.specs.declared.memory.Memory.{Memory}
use Rattle.reader_pace.specs.declared.readers.PacedReader.{PacedReader}
use Rattle.run_reports.specs.declared.ring_kind.RingKind.{RingKind}
use Rattle.setup_text.specs.declared.jobs.Job.{Job}
use Rattle.size_printing.specs.declared.size_reports.SizeReport.{SizeReport}
use Rattle.tap_outside.specs.Records.{NoneOpen}
use Rattle.tap_outside.specs.Seen.{OnlyReads, SinkSeen, StoreSeen}
use Rattle.tap_reading.specs.Fronts.{RanOut}
use Rattle.tap_running.specs.Prints.{IsLastLine, IsPrinted, PrintedSome}
use Rattle.tap_sizes.specs.Answers.{IsSized}
use Rattle.tap_sizes.specs.SizeFindings.{IsSizeFound, lines_of, report_in, status_of}
use Rattle.tap_sizes.specs.SizeTexts.{IsSizeAsked}
use Rattle.tap_sizes.specs.SizeWords.{SizeNamed}
use Rattle.tap_sizes.specs.declared.outcomes.SizeOutcome.{SizeOutcome}
use Rattle.tap_sizes.specs.declared.outcomes.SizeStatus.{SizeStatus}
use Rattle.tap_sizes.specs.declared.outcomes.SizeStatus.TheVariants as statuses
use Rattle.tap_sizes.specs.declared.size_findings.SizeFinding.{SizeFinding}

-- the status of a finding, unless printing failed
abbrev pub status_with : Bool → SizeStatus → SizeStatus
status_with printed status = if printed then status else statuses.WriteFault

-- a finding was returned and printed, or a prefix of its lines was and printing failed
pub record IsConcluded (finding : SizeFinding) (outcome : SizeOutcome) (before after : SinkSeen)
    : Type 0 where
  pub printed : Bool
  pub lines : IsPrinted before after (lines_of finding) printed
  pub status_is : outcome.status ≡ status_with printed (status_of finding)
  pub report_is : outcome.report ≡ report_in finding

-- what the call found while it only read the store, and what it made of that
pub record Tells (command : Option SizeNamed) (outcome : SizeOutcome) (old new : StoreSeen)
    (before after : SinkSeen) : Type 0 where
  pub reads : OnlyReads old new
  -- each source that was opened is closed
  pub closed : NoneOpen old.sources new.sources
  pub finding : SizeFinding
  pub found : IsSizeFound command old new finding
  pub concluded : IsConcluded finding outcome before after

-- all texts were accepted
pub record AreAccepted (command : Option SizeNamed) (old : StoreSeen) : Type 0 where
  pub named : SizeNamed
  pub command_is : command ≡ Some named
  pub between : StoreSeen
  pub job : Job
  pub reader : PacedReader
  pub asked : IsSizeAsked old between named job reader

-- memory ran out before anything was found; before all texts were accepted no read failed, and
-- each source that was opened is closed
pub record IsCut (command : Option SizeNamed) (old new : StoreSeen) : Type 0 where
  pub reads : OnlyReads old new
  pub cause : RanOut old new ⊎ AreAccepted command old

-- what the call found while it only read the store, or that memory ran out
pub record IsSizeSearched (command : Option SizeNamed) (old new : StoreSeen)
    (answer : Result SizeFinding Memory) : Type 0 where
  pub reads : OnlyReads old new
  pub found : IfOk answer (IsSizeFound command old new)
  pub cut : OnErr answer (IsCut command old new)

-- memory ran out after this was found: a prefix of its lines was printed
pub record IsCutShort (command : Option SizeNamed) (old new : StoreSeen)
    (before after : SinkSeen) : Type 0 where
  pub reads : OnlyReads old new
  pub finding : SizeFinding
  pub found : IsSizeFound command old new finding
  pub printed : PrintedSome before after (lines_of finding)

-- memory ran out: before anything was found, and nothing was printed, or after that
abbrev pub IsStopped : Option SizeNamed → StoreSeen → StoreSeen → SinkSeen → SinkSeen → Type 0
IsStopped command old new before after =
    (IsCut command old new × (after ≡ before)) ⊎ IsCutShort command old new before after

-- there is no report, and nothing else was printed except the line that says so, whole unless the
-- sink counted why not; before that line no write failed, and with it one at most
pub record GivesUp (command : Option SizeNamed) (outcome : SizeOutcome) (old new : StoreSeen)
    (before after : SinkSeen) : Type 0 where
  pub report : outcome.report ≡ None
  -- the sink before that line
  pub told : SinkSeen
  pub stopped : IsStopped command old new before told
  pub line : IsLastLine before told after
  pub kept : before.faults ≤ after.faults
  pub one : after.faults ≤ before.faults + 1

-- a report is that of the texts and the captures under the two names, as the store had them before
-- and as its record has them since
abbrev pub IsWorth : Option SizeNamed → StoreSeen → StoreSeen → Option SizeReport → Type 0
IsWorth command old new report =
    IfSome report (λ report. (named : SizeNamed) × (command ≡ Some named)
    × (kind : RingKind) × (unit : ℕ) × IsSized old new named kind unit report)

-- if a fault was counted the status is 5, 6 or 7
pub record NoneCounted (old new : StoreSeen) (before after : SinkSeen) : Type 0 where
  pub reads : IsTrue old.exact → new.read_faults ≡ old.read_faults
  pub prints : after.faults ≡ before.faults

abbrev pub IsFaultless : StoreSeen → StoreSeen → SinkSeen → SinkSeen → SizeStatus → Type 0
IsFaultless old new before after status =
    status ≢ statuses.ReadFault → status ≢ statuses.WriteFault → status ≢ statuses.Memory
    → NoneCounted old new before after
