-- Which files a command reads and which it saves.
use Rattle.std.specs.Prelude.{ℕ, Bool, false, true, List, [], ◌∷◌, ◌++◌, map, option_to_list}
use Rattle.std.specs.Prelude.{Option, None, Some}
use Rattle.std.specs.Prelude.{unwrap_or, IsTrue, ⊤, Result, Ok, Err}
use Rattle.std.specs.List.{AllByRecursion}
use Rattle.setup_text.specs.declared.commands.Command.{Command}
use Rattle.setup_text.specs.declared.commands.Command.TheVariants.{Capture, Check, Forward, Make}
use Rattle.setup_text.specs.declared.commands.Command.TheVariants.{Replay, Replay2, Send}
use Rattle.setup_text.specs.declared.cpu_setups.CpuSetup.{CpuSetup}
use Rattle.setup_text.specs.declared.setup_error.SetupError.{SetupError}
use Rattle.setup_text.specs.declared.setups.Setup.{Setup}
use Rattle.tap_outside.specs.Contents.{Contents}
use Rattle.tap_outside.specs.Seen.{StoreSeen}
use Rattle.tap_reading.specs.Readers.{setup_for}
use Rattle.tap_saving.specs.Files.{names_from, sent_name}
use Rattle.tap_engine.specs.Commands.{Named}

-- the filter that a command reads: `send` reads none
abbrev pub filter_for : Command → Setup → Option (List ℕ)
filter_for Send setup = None
filter_for Check setup = setup.filter
filter_for Make setup = setup.filter
filter_for Replay setup = setup.filter
filter_for Replay2 setup = setup.filter
filter_for Capture setup = setup.filter
filter_for Forward setup = setup.filter

-- the moments that it reads: those of a setup that is checked or runs on threads
abbrev pub ticks_for : Command → Setup → Option (List ℕ)
ticks_for Check setup = setup.ticks
ticks_for Capture setup = setup.ticks
ticks_for Forward setup = setup.ticks
ticks_for Make setup = None
ticks_for Replay setup = None
ticks_for Replay2 setup = None
ticks_for Send setup = None

-- the capture of CPU 0
abbrev pub first_file : List CpuSetup → List ℕ
first_file [] = []
first_file (cpu ∷ cpus) = cpu.file

-- after these `replay` and `replay2` read the schedule and the captures, `capture` and `forward`
-- the captures, and `send` the first capture
abbrev pub read_last : Command → List ℕ → Setup → List (List ℕ)
read_last Check schedule setup = []
read_last Make schedule setup = []
read_last Replay schedule setup = schedule ∷ map (λ cpu. cpu.file) setup.cpus
read_last Replay2 schedule setup = schedule ∷ map (λ cpu. cpu.file) setup.cpus
read_last Capture schedule setup = map (λ cpu. cpu.file) setup.cpus
read_last Forward schedule setup = map (λ cpu. cpu.file) setup.cpus
read_last Send schedule setup = first_file setup.cpus ∷ []

-- what a command reads after its setup
abbrev pub read_after : Named → Setup → List (List ℕ)
read_after named setup =
    option_to_list (filter_for named.command setup)
    ++ (option_to_list (ticks_for named.command setup)
    ++ read_last named.command named.schedule setup)

-- only the setup if it isn't accepted
abbrev pub read_by : Named → Result Setup SetupError → List (List ℕ)
read_by named (Err error) = named.setup ∷ []
read_by named (Ok setup) = named.setup ∷ read_after named setup

-- a run saves the files of its members, those of what they sent under `forward`, and `send` what it
-- sent
abbrev pub saved_for : Command → Setup → List (List ℕ)
saved_for Check setup = []
saved_for Make setup = names_from setup false 0 setup.plan.members
saved_for Replay setup = names_from setup false 0 setup.plan.members
saved_for Replay2 setup = names_from setup false 0 setup.plan.members
saved_for Capture setup = names_from setup false 0 setup.plan.members
saved_for Forward setup = names_from setup true 0 setup.plan.members
saved_for Send setup = sent_name setup ∷ []

abbrev pub saved_by : Command → Result Setup SetupError → List (List ℕ)
saved_by command (Err error) = []
saved_by command (Ok setup) = saved_for command setup

-- the setup that the store holds; a name that isn't held holds the empty text
abbrev pub setup_held : Contents → Named → Result Setup SetupError
setup_held files named = setup_for named.command (unwrap_or (files named.setup) [])

abbrev pub names_to_read : Option Named → Contents → List (List ℕ)
names_to_read None files = []
names_to_read (Some named) files = read_by named (setup_held files named)

abbrev pub names_to_save : Option Named → Contents → List (List ℕ)
names_to_save None files = []
names_to_save (Some named) files = saved_by named.command (setup_held files named)

-- each of the names is meant; nothing is required of a store that doesn't report what it holds
abbrev pub AreMeant : (Option Named → Contents → List (List ℕ)) → Option Named → Option Contents
    → (List ℕ → Bool) → Type 0
AreMeant names command None meant = ⊤
AreMeant names command (Some files) meant =
    AllByRecursion (λ name. IsTrue (meant name)) (names command files)

-- each file that a command reads is meant for reading, and each that it saves is meant for saving
abbrev pub AreMeantToRead : Option Named → StoreSeen → Type 0
AreMeantToRead command store = AreMeant names_to_read command store.held store.to_read

abbrev pub AreMeantToSave : Option Named → StoreSeen → Type 0
AreMeantToSave command store = AreMeant names_to_save command store.held store.to_save
