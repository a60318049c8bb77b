-- A command with nothing wrong.
use Rattle.std.specs.Prelude.{◌≡◌, ◌⊎◌, ℕ, List, [], length, ⊤, Option, None, Some, unwrap_or, Ok}
use Rattle.std.specs.List.{AllByRecursion}
use Rattle.bpf_filter.specs.declared.insn.Insn.{Insn}
use Rattle.capture_file.specs.Capture.{end_of}
use Rattle.setup_text.specs.declared.lines.Line.{Line}
use Rattle.setup_text.specs.Filters.{filter_of}
use Rattle.setup_text.specs.Moments.{moments_of}
use Rattle.setup_text.specs.Schedules.{schedule_of}
use Rattle.setup_text.specs.declared.commands.Command.{Command}
use Rattle.setup_text.specs.declared.commands.Command.TheVariants.{Capture, Check, Forward, Make}
use Rattle.setup_text.specs.declared.commands.Command.TheVariants.{Replay, Replay2, Send}
use Rattle.setup_text.specs.declared.cpu_setups.CpuSetup.{CpuSetup}
use Rattle.setup_text.specs.declared.setups.Setup.{Setup}
use Rattle.tap_outside.specs.Contents.{Contents}
use Rattle.tap_outside.specs.Counts.{Rose}
use Rattle.tap_outside.specs.Seen.{SinkSeen, StoreSeen}
use Rattle.tap_running.specs.Texts.{IsSoundFilter, text_in}
use Rattle.tap_running.specs.Captures.{AreWhole}
use Rattle.tap_engine.specs.Commands.{Named}
use Rattle.tap_engine.specs.Names.{filter_for, first_file, setup_held, ticks_for}
use Rattle.tap_engine.specs.declared.outcomes.Status.{Status}
use Rattle.tap_engine.specs.declared.outcomes.Status.TheVariants.{Fine, Memory}
use Rattle.tap_running.specs.Captures.{AreWhole}
use Rattle.tap_running.specs.Texts.{IsSoundFilter, text_in}

-- so are the moments, if there are some
abbrev pub AreSoundTicks : Contents → Option (List ℕ) → Type 0
AreSoundTicks files None = ⊤
AreSoundTicks files (Some name) =
    (moments : List ℕ) × (moments_of (text_in files name) ≡ Ok moments)

-- so is the schedule
abbrev pub IsSoundSchedule : Contents → List ℕ → Setup → Type 0
IsSoundSchedule files name setup =
    (lines : List Line)
    × (schedule_of (length setup.cpus) setup.plan.members (text_in files name) ≡ Ok lines)

-- the texts and captures that are read last
abbrev pub AreSoundLast : Command → Contents → List ℕ → Setup → Type 0
AreSoundLast Check files schedule setup = ⊤
AreSoundLast Make files schedule setup = ⊤
AreSoundLast Replay files schedule setup =
    IsSoundSchedule files schedule setup × AreWhole files setup.cpus
AreSoundLast Replay2 files schedule setup =
    IsSoundSchedule files schedule setup × AreWhole files setup.cpus
AreSoundLast Capture files schedule setup = AreWhole files setup.cpus
AreSoundLast Forward files schedule setup = AreWhole files setup.cpus
AreSoundLast Send files schedule setup =
    end_of (text_in files (first_file setup.cpus)) ≡ None

-- the store holds under the names what is accepted, and whole captures
pub record IsSound (files : Contents) (named : Named) : Type 0 where
  pub setup : Setup
  pub setup_is : setup_held files named ≡ Ok setup
  pub filter : IsSoundFilter files (filter_for named.command setup)
  pub ticks : AreSoundTicks files (ticks_for named.command setup)
  pub last : AreSoundLast named.command files named.schedule setup

-- no count of faults rose
pub record NothingFails (old new : StoreSeen) (before after : SinkSeen) : Type 0 where
  pub reads : Rose old.read_faults new.read_faults → ⊥
  pub saves : Rose old.save_faults new.save_faults → ⊥
  pub prints : Rose before.faults after.faults → ⊥

-- if the store holds a sound command and nothing fails, the status is 0, or 7
abbrev pub IsComplete :
    Option Named → StoreSeen → StoreSeen → SinkSeen → SinkSeen → Status → Type 0
IsComplete command old new before after status =
    (files : Contents) (named : Named) → old.held ≡ Some files → command ≡ Some named
    → IsSound files named → NothingFails old new before after
    → (status ≡ Fine) ⊎ (status ≡ Memory)
