-- What a command finds, from what the outside gives, and what it returns, prints and saves from
-- that.
use Rattle.std.specs.Prelude.{◌≡◌, ◌≤◌, ℕ, ◌+◌, Bool, false, true, List, [], ◌∷◌, codes, length}
use Rattle.std.specs.Prelude.{map}
use Rattle.std.specs.Prelude.{All, Option, None, Some, is_some, IfSome, ⊤, Result, Ok, Err}
use Rattle.capture_file.specs.declared.cpu_end.CpuEnd.{CpuEnd}
use Rattle.capture_file.specs.declared.cpu_end.CpuEnd.TheVariants.{Whole, Fault, Damaged}
use Rattle.fanout_group.specs.declared.runs.CpuLog.{CpuLog}
use Rattle.frame_view.specs.declared.memory.Memory.{Memory}
use Rattle.run_reports.specs.declared.reports.Forwards.{Forwards}
use Rattle.run_reports.specs.declared.reports.MemberReport.{MemberReport}
use Rattle.run_reports.specs.declared.reports.RunReport.{RunReport}
use Rattle.setup_text.specs.declared.setups.Setup.{Setup}
use Rattle.tap_forward.specs.Bridges.{sent_for, skipped_for}
use Rattle.tap_outside.specs.Seen.{StoreSeen}
use Rattle.tap_printing.specs.Lines.{send_lines, summary_of}
use Rattle.tap_printing.specs.Refusals.{setup_refusal, text_refusal}
use Rattle.tap_reading.specs.Fronts.{ReadTexts}
use Rattle.tap_reading.specs.declared.stops.LoadError.{LoadError}
use Rattle.tap_reading.specs.declared.stops.LoadError.TheVariants as stops
use Rattle.run_reports.specs.Members.{AreShort}
use Rattle.tap_saving.specs.Files.{CanBeOutput, File, files_from, names_from, sent_file, sent_name}
use Rattle.tp_layout.specs.Requests.{size_of}
use Rattle.tx_ring.specs.Rings.{room_of}
use Rattle.tap_running.specs.Captures.{fault_at}
use Rattle.tap_engine.specs.Commands.{Named, rings_of, sends}
use Rattle.tap_running.specs.Counts.{IsCounted}
use Rattle.tap_engine.specs.Headline.{IsHeadline}
use Rattle.tap_engine.specs.Jobs.{CantReadText, HasBadSetup, HasBadText, IsChecked}
use Rattle.tap_engine.specs.Sendings.{IsSent}
use Rattle.tap_engine.specs.declared.findings.CommandResult.{CommandResult}
use Rattle.tap_engine.specs.declared.findings.CommandResult.TheVariants as finding
use Rattle.tap_engine.specs.declared.outcomes.Status.{Status}
use Rattle.tap_engine.specs.declared.outcomes.Status.TheVariants as statuses
use Rattle.tap_running.specs.Captures.{fault_at}

-- ---- what is found

-- a report fulfils the headline, and this is its setup
pub record IsReported (old new : StoreSeen) (named : Named) (setup : Setup) (report : RunReport)
    : Type 0 where
  pub headline : IsHeadline old new named report
  pub setup_is : headline.job.setup ≡ setup

-- what each member sent and skipped follows from the packets that it read, for slots of `room`
-- bytes
pub record IsForwarded (room : ℕ) (members : List MemberReport) (forwards : Forwards)
    : Type 0 where
  pub sent : forwards.sent ≡ map (sent_for room) members
  pub skipped : forwards.skipped ≡ map (skipped_for room) members

-- members send exactly under a command that sends
abbrev pub IsSentBy : Bool → Setup → RunReport → Option Forwards → Type 0
IsSentBy true setup report (Some forwards) =
    IsForwarded (room_of setup.shape) report.members forwards
IsSentBy true setup report None = ⊥
IsSentBy false setup report (Some forwards) = ⊥
IsSentBy false setup report None = ⊤

abbrev pub faults_in : List CpuLog → ℕ
faults_in [] = 0
faults_in (log ∷ logs) = fault_at log.end + faults_in logs

-- A command finds this in a store; each source that it opened is closed. As many captures end with
-- a fault as reading failed, or fewer. Where no text can't be read and no capture ends with a fault
-- no read failed.
abbrev pub IsFound : Option Named → StoreSeen → StoreSeen → CommandResult → Type 0
IsFound None old new finding.NoCommand = ReadTexts old new []
IsFound None old new found = ⊥
IsFound (Some named) old new finding.NoCommand = ⊥
IsFound (Some named) old new finding.Unread = CantReadText old new named
IsFound (Some named) old new (finding.BadSetup error) = HasBadSetup old new named error
IsFound (Some named) old new (finding.BadText error) = HasBadText old new named error
IsFound (Some named) old new finding.Checked = IsChecked old new named
IsFound (Some named) old new (finding.Ran rings setup report forwards) =
    IsReported old new named setup report
    × IsCounted old new (faults_in report.cpus)
    × IsSentBy (sends named.command) setup report forwards
    × (rings ≡ rings_of named.command)
IsFound (Some named) old new (finding.Sent setup sending) =
    IsSent old new named setup sending
    × IsCounted old new (fault_at sending.end)

-- what is found if a text stops the command
abbrev pub command_result_of : Result CommandResult LoadError → Result CommandResult Memory
command_result_of (Ok found) = Ok found
command_result_of (Err stops.Unread) = Ok finding.Unread
command_result_of (Err (stops.Setup error)) = Ok (finding.BadSetup error)
command_result_of (Err (stops.Text error)) = Ok (finding.BadText error)
command_result_of (Err stops.Memory) = Err (record {})

-- ---- what follows from it

-- the status of the first CPU that didn't end whole: a fault of any CPU comes before damage
abbrev pub status_by_end : ℕ → CpuEnd → Status → Status
status_by_end cpu Whole rest = rest
status_by_end cpu Fault rest = statuses.ReadFault
status_by_end cpu (Damaged damage) statuses.ReadFault = statuses.ReadFault
status_by_end cpu (Damaged damage) rest = statuses.Damaged cpu damage

abbrev pub status_of_logs : ℕ → List CpuLog → Status
status_of_logs cpu [] = statuses.Fine
status_of_logs cpu (log ∷ logs) = status_by_end cpu log.end (status_of_logs (cpu + 1) logs)

-- the status
abbrev pub status_of : CommandResult → Status
status_of finding.NoCommand = statuses.Usage
status_of finding.Unread = statuses.ReadFault
status_of (finding.BadSetup error) = statuses.Setup error
status_of (finding.BadText error) = statuses.Text error
status_of finding.Checked = statuses.Fine
status_of (finding.Ran rings setup report forwards) = status_of_logs 0 report.cpus
status_of (finding.Sent setup sending) = status_by_end 0 sending.end statuses.Fine

-- the report
abbrev pub report_in : CommandResult → Option RunReport
report_in (finding.Ran rings setup report forwards) = Some report
report_in found = None

-- the printed lines
abbrev pub lines_of : CommandResult → List ℕ
lines_of finding.NoCommand =
    codes "usage: ringtap check|replay|capture|send|make|forward|replay2 CONF [SCHED]\n"
lines_of finding.Unread = codes "read fault\n"
lines_of (finding.BadSetup error) = setup_refusal error
lines_of (finding.BadText error) = text_refusal error
lines_of finding.Checked = codes "ok\n"
lines_of (finding.Ran rings setup report forwards) =
    summary_of rings (size_of setup.shape) forwards report
lines_of (finding.Sent setup sending) = send_lines sending.frames sending.end sending.sent

-- the files, and their names
abbrev pub files_of : CommandResult → List File
files_of (finding.Ran rings setup report forwards) = files_from setup forwards 0 report.members
files_of (finding.Sent setup sending) = sent_file setup sending.sent.packets ∷ []
files_of found = []

abbrev pub names_of : CommandResult → List (List ℕ)
names_of (finding.Ran rings setup report forwards) =
    names_from setup (is_some forwards) 0 (length report.members)
names_of (finding.Sent setup sending) = sent_name setup ∷ []
names_of found = []

-- ---- what its files and its lines need

-- at most eight CPUs and members, and packets that are short enough for an output file
pub record IsSmall (report : RunReport) : Type 0 where
  pub cpus : length report.cpus ≤ 8
  pub members : length report.members ≤ 8
  pub packets : AreShort report.members

abbrev pub IsReady : CommandResult → Type 0
IsReady (finding.Ran rings setup report forwards) =
    IsSmall report × IfSome forwards (λ forwards. All CanBeOutput forwards.sent)
IsReady (finding.Sent setup sending) = CanBeOutput sending.sent.packets
IsReady found = ⊤
