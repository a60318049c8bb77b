-- What a command does on one thread, as a finding.
use Rattle.std.specs.Prelude.{None}
use Rattle.setup_text.specs.declared.setups.Setup.{Setup}
use Rattle.run_reports.specs.declared.ring_kind.RingKind.{RingKind}
use Rattle.tap_engine.specs.declared.findings.CommandResult.{CommandResult}
use Rattle.tap_engine.specs.declared.findings.CommandResult.TheVariants as finding
use Rattle.tap_engine.specs.declared.command_runs.Done.{Done}
use Rattle.tap_engine.specs.declared.command_runs.Done.TheVariants as done

-- with the setup and what the rings are made of, if a run was made
abbrev pub finding_by : RingKind → Setup → Done → CommandResult
finding_by rings setup done.Checked = finding.Checked
finding_by rings setup (done.Ran report) = finding.Ran rings setup report None
finding_by rings setup (done.Sent sending) = finding.Sent setup sending
