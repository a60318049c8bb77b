-- The sources of a run's captures, fetched and closed.
use Rattle.std.specs.Prelude.{◌≡◌, ℕ, ◌+◌, List, [], ◌∷◌, ◌++◌, ⊤, ◌==◌, if◌then◌else◌, map, Option}
use Rattle.std.specs.Prelude.{None, Some, option_map}
use Rattle.setup_text.specs.declared.cpu_setups.CpuSetup.{CpuSetup}
use Rattle.tap_outside.specs.Contents.{Contents, GivesFile}
use Rattle.tap_outside.specs.Seen.{Entry, SourceSeen, SourcesSeen, entry_of}
use Rattle.tap_running.specs.Captures.{IsFresh}
use Rattle.tap_engine.specs.Given.{missing_entries}
use Rattle.tap_running.specs.Captures.{IsFresh}

-- the source of each CPU's capture, or none if it can't be fetched
abbrev pub AreFetched : Option Contents → List CpuSetup → List (Option SourceSeen) → Type 0
AreFetched held [] [] = ⊤
AreFetched held (cpu ∷ cpus) (None ∷ sources) = AreFetched held cpus sources
AreFetched held (cpu ∷ cpus) (Some source ∷ sources) =
    IsFresh held cpu.file source × AreFetched held cpus sources
AreFetched held cpus sources = ⊥

-- how many can't be fetched
abbrev pub missing_in : List (Option SourceSeen) → ℕ
missing_in [] = 0
missing_in (None ∷ sources) = missing_in sources + 1
missing_in (Some source ∷ sources) = missing_in sources

-- how many had a fault
abbrev pub faulty_in : List (Option SourceSeen) → ℕ
faulty_in [] = 0
faulty_in (None ∷ sources) = faulty_in sources
faulty_in (Some source ∷ sources) = (if source.faults == 0 then 0 else 1) + faulty_in sources

-- the entry of each, where there is one
abbrev pub entries_of : List (Option SourceSeen) → List (Option Entry)
entries_of sources = map (option_map entry_of) sources

-- the files of the CPUs whose source was opened
abbrev pub opened_files : List CpuSetup → List (Option SourceSeen) → List (List ℕ)
opened_files (cpu ∷ cpus) (None ∷ sources) = opened_files cpus sources
opened_files (cpu ∷ cpus) (Some source ∷ sources) = cpu.file ∷ opened_files cpus sources
opened_files cpus sources = []

-- these sources were opened, the others are missing, and nothing else was fetched or closed
pub record Fetches (old new : SourcesSeen) (cpus : List CpuSetup)
    (sources : List (Option SourceSeen)) : Type 0 where
  pub closed_is : new.closed ≡ old.closed ++ missing_entries cpus sources
  pub opened_is : new.opened ≡ old.opened ++ opened_files cpus sources

-- these entries were added, and no source was opened
abbrev pub with_closed : SourcesSeen → List Entry → SourcesSeen
with_closed sources entries = record sources { closed = sources.closed ++ entries }
