-- What the sources of a command gave, by the record of the store that took them back: an entry for
-- each source, with its name and all bytes that its reads gave, and an empty one for each fetch
-- that failed.
use Rattle.std.specs.Prelude.{◌≡◌, ℕ, Bool, false, true, List, [], ◌∷◌, ◌++◌, if◌then◌else◌, ⊤}
use Rattle.std.specs.Prelude.{Option, None, Some}
use Rattle.capture_file.specs.declared.cpu_end.CpuEnd.{CpuEnd}
use Rattle.capture_file.specs.declared.cpu_end.CpuEnd.TheVariants.{Whole, Fault, Damaged}
use Rattle.setup_text.specs.declared.cpu_setups.CpuSetup.{CpuSetup}
use Rattle.setup_text.specs.declared.setups.Setup.{Setup}
use Rattle.tap_outside.specs.Records.{Took}
use Rattle.tap_outside.specs.Seen.{Entry, SourcesSeen, missed_entry}
use Rattle.tap_reading.specs.Fronts.{text_entry}
use Rattle.tap_running.specs.Texts.{named_entry}
use Rattle.tap_running.specs.Captures.{capture_entry}
use Rattle.tap_engine.specs.Commands.{Named, has_schedule}
use Rattle.tap_engine.specs.Names.{filter_for, ticks_for}
use Rattle.tap_running.specs.Captures.{capture_entry}
use Rattle.tap_running.specs.Texts.{named_entry}

-- ---- texts

-- what the texts of a command gave; one that isn't read is empty
pub record Texts : Type 0 where
  pub setup : List ℕ
  pub filter : List ℕ
  -- the schedule, or the moments
  pub last : List ℕ

-- the texts that a command reads first: its setup, and the filter where it reads one
abbrev pub first_texts : Named → Setup → Texts → List Entry
first_texts named setup texts =
    text_entry named.setup texts.setup
    ∷ named_entry (filter_for named.command setup) texts.filter

-- those that it reads after them: its schedule where it has one, else the moments where it reads
-- some
abbrev pub last_texts : Named → Setup → Texts → List Entry
last_texts named setup texts =
    if has_schedule named.command then text_entry named.schedule texts.last ∷ []
    else named_entry (ticks_for named.command setup) texts.last

-- all that it reads
abbrev pub all_texts : Named → Setup → Texts → List Entry
all_texts named setup texts = first_texts named setup texts ++ last_texts named setup texts

-- ---- captures

-- what the source of a CPU's capture gave, under the name of its file; nothing without one
abbrev pub IsEntryOf : CpuSetup → List ℕ → CpuEnd → Option Entry → Type 0
IsEntryOf cpu bytes end None = (bytes ≡ []) × (end ≡ Fault)
IsEntryOf cpu bytes end (Some entry) = entry ≡ capture_entry cpu.file true bytes end

-- that of each CPU
abbrev pub AreEntries :
    List CpuSetup → List (List ℕ) → List CpuEnd → List (Option Entry) → Type 0
AreEntries [] [] [] [] = ⊤
AreEntries (cpu ∷ cpus) (bytes ∷ all) (end ∷ ends) (source ∷ sources) =
    IsEntryOf cpu bytes end source × AreEntries cpus all ends sources
AreEntries cpus all ends sources = ⊥

-- an entry for each capture that couldn't be fetched, under the name of its file
abbrev pub missing_entries : {A : Type 0} → List CpuSetup → List (Option A) → List Entry
missing_entries (cpu ∷ cpus) (None ∷ sources) =
    missed_entry cpu.file ∷ missing_entries cpus sources
missing_entries (cpu ∷ cpus) (Some source ∷ sources) = missing_entries cpus sources
missing_entries cpus sources = []

-- and those of the others
abbrev pub given_entries : List (Option Entry) → List Entry
given_entries [] = []
given_entries (None ∷ sources) = given_entries sources
given_entries (Some entry ∷ sources) = entry ∷ given_entries sources

-- The bytes of each CPU are exactly those that the source of its capture gave, and none where it
-- couldn't be fetched. Each source was opened once and is closed. The record of the store grows by
-- them and by nothing else: first by the empty entries of the captures that couldn't be fetched,
-- then by those of the others in the CPUs' order.
pub record AreGiven (before after : SourcesSeen) (cpus : List CpuSetup) (bytes : List (List ℕ))
    (ends : List CpuEnd) : Type 0 where
  -- the entry of each CPU's source, if there was one
  pub sources : List (Option Entry)
  pub entries : AreEntries cpus bytes ends sources
  pub took : Took before after (missing_entries cpus sources ++ given_entries sources)
