-- Texts and captures with nothing wrong.
use Rattle.std.specs.Prelude.{◌≡◌, ◌⊎◌, ℕ, ◌+◌, ◌*◌, ◌≤◌, List, [], ◌∷◌, Option, None, Some, Ok}
use Rattle.std.specs.Prelude.{map}
use Rattle.std.specs.List.{AllByRecursion}
use Rattle.capture_file.specs.Capture as capture
use Rattle.deal_rules.specs.Files.{times_by}
use Rattle.reader_pace.specs.Timelines.{end_of}
use Rattle.reader_pace.specs.declared.paces.MoreFile.{MoreFile}
use Rattle.reader_pace.specs.declared.readers.PacedReader.{PacedReader}
use Rattle.setup_text.specs.declared.cpu_setups.CpuSetup.{CpuSetup}
use Rattle.setup_text.specs.declared.setups.Setup.{Setup}
use Rattle.tap_outside.specs.Contents.{Contents}
use Rattle.tap_outside.specs.Counts.{Rose}
use Rattle.tap_outside.specs.Seen.{SinkSeen, StoreSeen}
use Rattle.tap_running.specs.Texts.{IsSoundFilter, text_in}
use Rattle.tap_sizes.specs.Readings.{more_of}
use Rattle.tap_sizes.specs.SizeNames.{size_setup_held}
use Rattle.tap_sizes.specs.SizeTexts.{reader_for}
use Rattle.tap_sizes.specs.SizeWords.{SizeNamed}
use Rattle.tap_sizes.specs.Tried.{unanswered_by}
use Rattle.tap_sizes.specs.declared.outcomes.SizeStatus.{SizeStatus}
use Rattle.tap_sizes.specs.declared.outcomes.SizeStatus.TheVariants.{Fine, Memory}

-- what the store holds of the files of each CPU, for CPUs with the numbers from this one up
abbrev pub files_held : Contents → List MoreFile → ℕ → List CpuSetup → List (List (List ℕ))
files_held files more cpu [] = []
files_held files more cpu (setup ∷ setups) =
    map (text_in files) (setup.file ∷ more_of cpu more) ∷ files_held files more (cpu + 1) setups

-- a file is whole
abbrev pub IsWholeFile : List ℕ → Type 0
IsWholeFile bytes = capture.end_of bytes ≡ None

-- the store holds under the names what is accepted and answered, and whole files of the CPUs that
-- don't last longer than the clock of a schedule goes
pub record IsSoundSize (files : Contents) (named : SizeNamed) : Type 0 where
  pub setup : Setup
  pub setup_is : size_setup_held files named ≡ Ok setup
  pub filter : IsSoundFilter files setup.filter
  pub reader : PacedReader
  pub reader_is : reader_for setup (text_in files named.reader) ≡ Ok reader
  pub answered : unanswered_by reader ≡ None
  pub captures :
      AllByRecursion (AllByRecursion IsWholeFile) (files_held files reader.more 0 setup.cpus)
  pub short :
      end_of (times_by (files_held files reader.more 0 setup.cpus)) ≤ 4294967295 * 1000000

-- no count of faults rose
pub record NothingFails (old new : StoreSeen) (before after : SinkSeen) : Type 0 where
  pub reads : Rose old.read_faults new.read_faults → ⊥
  pub prints : Rose before.faults after.faults → ⊥

-- if the store holds sound texts and captures and nothing fails, the status is 0, or 7
abbrev pub IsComplete :
    Option SizeNamed → StoreSeen → StoreSeen → SinkSeen → SinkSeen → SizeStatus → Type 0
IsComplete command old new before after status =
    (files : Contents) (named : SizeNamed) → old.held ≡ Some files → command ≡ Some named
    → IsSoundSize files named → NothingFails old new before after
    → (status ≡ Fine) ⊎ (status ≡ Memory)
