-- The headline: what a report guarantees.
use Rattle.std.specs.Prelude.{◌≡◌, ◌≤◌, ℕ, List, [], ◌∷◌, length, map, ⊤, Option, None, Some}
use Rattle.std.specs.Prelude.{IfSome}
use Rattle.capture_file.specs.Capture.{damage_of, end_of}
use Rattle.capture_file.specs.declared.cpu_end.CpuEnd.{CpuEnd}
use Rattle.capture_file.specs.declared.cpu_end.CpuEnd.TheVariants.{Whole}
use Rattle.capture_reports.specs.Reported.{IsCaptured}
use Rattle.made_captures.specs.Made.{made_captures}
use Rattle.setup_text.specs.declared.lines.Line.{Line}
use Rattle.setup_text.specs.declared.commands.Command.{Command}
use Rattle.setup_text.specs.declared.commands.Command.TheVariants.{Capture, Check, Forward, Make}
use Rattle.setup_text.specs.declared.commands.Command.TheVariants.{Replay, Replay2, Send}
use Rattle.setup_text.specs.declared.cpu_setups.CpuSetup.{CpuSetup}
use Rattle.setup_text.specs.declared.jobs.Job.{Job}
use Rattle.run_reports.specs.declared.reports.RunReport.{RunReport}
use Rattle.setup_text.specs.declared.setups.Setup.{Setup}
use Rattle.tap_outside.specs.Contents.{Contents}
use Rattle.tap_outside.specs.Seen.{SourcesSeen, StoreSeen}
use Rattle.tap_reading.specs.Fronts.{IsAllOf, IsFrontOf, ReadTexts}
use Rattle.run_reports.specs.Reports.{IsRunReport}
use Rattle.run_reports.specs.RingRules.{RingRules, rules_by}
use Rattle.replay_machine.specs.Runs.{report_of}
use Rattle.capture_reading.specs.Sources.{EndsAtDamage, UnlessFault, WhereEnded, WhereFault, end_by}
use Rattle.tap_running.specs.Captures.{AreCaptures}
use Rattle.tap_engine.specs.Commands.{Named, rings_of}
use Rattle.tap_engine.specs.Given.{AreGiven, Texts, all_texts}
use Rattle.tap_engine.specs.Jobs.{HasJob, HasLines, HasTicks}
use Rattle.tap_running.specs.Captures.{AreCaptures}

-- the captures of a `make` are those of its own frames, and each ended whole
pub record AreMade (setup : Setup) (bytes : List (List ℕ)) (ends : List CpuEnd) : Type 0 where
  pub bytes_are : bytes ≡ made_captures setup.seed setup.count (length setup.cpus)
  pub whole : ends ≡ map (λ text. Whole) bytes

-- what the sources of a command's run gave, and how they ended
abbrev pub CapturesFor :
    Command → Option Contents → Setup → List (List ℕ) → List CpuEnd → Type 0
CapturesFor Check held setup bytes ends = ⊥
CapturesFor Make held setup bytes ends = AreMade setup bytes ends
CapturesFor Replay held setup bytes ends = AreCaptures held setup.cpus bytes ends
CapturesFor Replay2 held setup bytes ends = AreCaptures held setup.cpus bytes ends
CapturesFor Capture held setup bytes ends = AreCaptures held setup.cpus bytes ends
CapturesFor Forward held setup bytes ends = AreCaptures held setup.cpus bytes ends
CapturesFor Send held setup bytes ends = ⊥

-- how the record of the store grew by the captures of a run: by exactly what their sources gave,
-- each opened once under the name of its file and closed, also where reading failed, and under
-- `make`, which reads no capture, by nothing
abbrev pub GivenFor : Command → SourcesSeen → SourcesSeen → List CpuSetup → List (List ℕ)
    → List CpuEnd → Type 0
GivenFor Check before after cpus bytes ends = ⊥
GivenFor Make before after cpus bytes ends = after ≡ before
GivenFor Replay before after cpus bytes ends = AreGiven before after cpus bytes ends
GivenFor Replay2 before after cpus bytes ends = AreGiven before after cpus bytes ends
GivenFor Capture before after cpus bytes ends = AreGiven before after cpus bytes ends
GivenFor Forward before after cpus bytes ends = AreGiven before after cpus bytes ends
GivenFor Send before after cpus bytes ends = ⊥

-- the rules of the rings of a command's members
abbrev pub rules_for : Command → Job → RingRules
rules_for command job = rules_by (rings_of command) job.setup.shape

-- the report is that of the command's lines, by the text of its schedule
pub record IsReplayOf (held : Option Contents) (named : Named) (job : Job) (text : List ℕ)
    (bytes : List (List ℕ)) (ends : List CpuEnd) (report : RunReport) : Type 0 where
  pub lines : List Line
  pub lines_are : HasLines held named job text lines
  pub replay : report ≡ report_of (rules_for named.command job) job lines bytes ends

-- the moments of the text that the setup names were reported to the members, each once and in
-- order, and the report holds their finished rings
pub record IsCaptureOf (held : Option Contents) (job : Job) (text : List ℕ) (report : RunReport)
    : Type 0 where
  pub moments : List ℕ
  pub moments_are : HasTicks held job.setup.ticks text moments
  pub captured : IsCaptured job.setup.shape moments report

-- what a command adds to what holds of every report: `replay`, `replay2` and `make` replay their
-- lines, and `capture` and `forward` report their moments
abbrev pub IsRunOf : Command → Option Contents → Named → Job → List ℕ → List (List ℕ)
    → List CpuEnd → RunReport → Type 0
IsRunOf Check held named job text bytes ends report = ⊥
IsRunOf Make held named job text bytes ends report =
    IsReplayOf held named job text bytes ends report
IsRunOf Replay held named job text bytes ends report =
    IsReplayOf held named job text bytes ends report
IsRunOf Replay2 held named job text bytes ends report =
    IsReplayOf held named job text bytes ends report
IsRunOf Capture held named job text bytes ends report = IsCaptureOf held job text report
IsRunOf Forward held named job text bytes ends report = IsCaptureOf held job text report
IsRunOf Send held named job text bytes ends report = ⊥

-- A report is that of the setup, the filter and the captures under their names, as the store had
-- them before; its texts and captures are what the sources of these names gave, as the store has
-- recorded since.
pub record IsHeadline (old new : StoreSeen) (named : Named) (report : RunReport) : Type 0 where
  -- the texts are accepted
  pub texts : Texts
  pub job : Job
  pub job_is : HasJob old.held named texts job
  -- the store after just these were read, each once, and no read had failed
  pub read : StoreSeen
  pub read_is : ReadTexts old read (all_texts named job.setup texts)
  -- what the captures gave, and how they ended
  pub bytes : List (List ℕ)
  pub ends : List CpuEnd
  pub captures : CapturesFor named.command old.held job.setup bytes ends
  -- all that their sources gave, each opened once and closed, whether reading failed or not
  pub given : GivenFor named.command read.sources new.sources job.setup.cpus bytes ends
  -- what holds of every report: its logs, its members, and that each arrival that passes appears
  -- once
  pub report_is : IsRunReport (rules_for named.command job) job bytes ends report
  -- what the command adds
  pub run : IsRunOf named.command old.held named job texts.last bytes ends report

-- a report, if there is one, guarantees that, and the words were a command
abbrev pub IsWorth : Option Named → StoreSeen → StoreSeen → Option RunReport → Type 0
IsWorth command old new report =
    IfSome report (λ report. (named : Named) × (command ≡ Some named)
    × IsHeadline old new named report)
