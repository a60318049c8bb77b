-- Whatever was found, each source that was opened is closed.
use Rattle.std.proofs.Common.{List, ℕ, Option, None, Some, inl, inr}
use Rattle.capture_file.specs.declared.cpu_end.CpuEnd.{CpuEnd}
use Rattle.setup_text.specs.declared.commands.Command.{Command}
use Rattle.setup_text.specs.declared.commands.Command.TheVariants.{Capture, Check, Forward, Make, Replay, Replay2, Send}
use Rattle.setup_text.specs.declared.cpu_setups.CpuSetup.{CpuSetup}
use Rattle.setup_text.specs.declared.text_error.TextError.{TextError}
use Rattle.tap_outside.specs.Records.{NoneOpen}
use Rattle.tap_outside.specs.Seen.{Entry, SourcesSeen, StoreSeen}
use Rattle.tap_outside.proofs.Taken.{none_open, none_open_same, none_open_then}
use Rattle.tap_reading.specs.Fronts.{ReadTexts}
use Rattle.tap_engine.specs.Commands.{Named}
use Rattle.tap_engine.specs.Findings.{IsFound}
use Rattle.tap_engine.specs.Headline.{GivenFor}
use Rattle.tap_running.specs.Texts.{CantReadNext}
use Rattle.tap_engine.specs.Jobs.{CantReadText, HasBadText}
use Rattle.tap_engine.specs.declared.findings.CommandResult.{CommandResult}
use Rattle.tap_engine.specs.declared.findings.CommandResult.TheVariants as finding
use Rattle.tap_running.proofs.TextOrder.{next_closed, read_closed}

unread_closed : (old new : StoreSeen) (named : Named) → CantReadText old new named
    → NoneOpen old.sources new.sources
unread_closed old new named (inl setup) = next_closed old new _ named.setup setup
unread_closed old new named (inr (inl filter)) = next_closed old new _ filter.name filter.unread
unread_closed old new named (inr (inr (inl ticks))) = next_closed old new _ ticks.name ticks.unread
unread_closed old new named (inr (inr (inr schedule))) =
    next_closed old new _ named.schedule schedule.unread

refused_closed : (old new : StoreSeen) (named : Named) (error : TextError)
    → HasBadText old new named error → NoneOpen old.sources new.sources
refused_closed old new named error (inl filter) = read_closed old new _ filter.refused.texts
refused_closed old new named error (inr (inl ticks)) = read_closed old new _ ticks.refused.texts
refused_closed old new named error (inr (inr schedule)) =
    read_closed old new _ schedule.refused.texts

given_closed : (command : Command) (before after : SourcesSeen) (cpus : List CpuSetup)
    (bytes : List (List ℕ)) (ends : List CpuEnd) → GivenFor command before after cpus bytes ends
    → NoneOpen before after
given_closed Check before after cpus bytes ends h = absurd h
given_closed Make before after cpus bytes ends h = none_open_same before after h
given_closed Replay before after cpus bytes ends h = none_open before after _ h.took
given_closed Replay2 before after cpus bytes ends h = none_open before after _ h.took
given_closed Capture before after cpus bytes ends h = none_open before after _ h.took
given_closed Forward before after cpus bytes ends h = none_open before after _ h.took
given_closed Send before after cpus bytes ends h = absurd h

pub closed_of : (command : Option Named) (old new : StoreSeen) (found : CommandResult)
    → IsFound command old new found → NoneOpen old.sources new.sources
closed_of None old new finding.NoCommand h = read_closed old new _ h
closed_of None old new finding.Unread h = absurd h
closed_of None old new (finding.BadSetup error) h = absurd h
closed_of None old new (finding.BadText error) h = absurd h
closed_of None old new finding.Checked h = absurd h
closed_of None old new (finding.Ran rings setup report forwards) h = absurd h
closed_of None old new (finding.Sent setup sending) h = absurd h
closed_of (Some named) old new finding.NoCommand h = absurd h
closed_of (Some named) old new finding.Unread h = unread_closed old new named h
closed_of (Some named) old new (finding.BadSetup error) h = read_closed old new _ h.texts
closed_of (Some named) old new (finding.BadText error) h = refused_closed old new named error h
closed_of (Some named) old new finding.Checked h = read_closed old new _ h.read_is
closed_of (Some named) old new (finding.Ran rings setup report forwards) h =
    let head = h.0.headline in
    none_open_then old.sources head.read.sources new.sources (read_closed old head.read _ head.read_is)
    (given_closed named.command head.read.sources new.sources head.job.setup.cpus head.bytes head.ends
    head.given)
closed_of (Some named) old new (finding.Sent setup sending) h =
    let sent = h.0 in
    none_open_then old.sources sent.read.sources new.sources (read_closed old sent.read _ sent.read_is)
    (none_open sent.read.sources new.sources _ sent.sending_is.given)
