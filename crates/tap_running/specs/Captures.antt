-- A capture of a store: the bytes that it gave, how it ended, and its entry in the record.
use Rattle.capture_file.specs.Capture.{damage_of, end_of}
use Rattle.capture_file.specs.declared.cpu_end.CpuEnd.{CpuEnd}
use Rattle.capture_file.specs.declared.cpu_end.CpuEnd.TheVariants.{Damaged, Fault, Whole}
use Rattle.capture_reading.specs.Sources.{EndsAtDamage, UnlessFault, WhereEnded, WhereFault, end_by}
use Rattle.setup_text.specs.declared.cpu_setups.CpuSetup.{CpuSetup}
use Rattle.std.specs.List.{AllByRecursion}
use Rattle.std.specs.Prelude.{Bool, List, None, Option, [], false, length, true, ℕ, ⊤, ◌∷◌, ◌≡◌}
use Rattle.std.specs.Prelude.{◌≤◌}
use Rattle.tap_outside.specs.Contents.{Contents, GivesFile}
use Rattle.tap_outside.specs.Seen.{Entry, SourceSeen}
use Rattle.tap_reading.specs.Fronts.{IsAllOf, IsFrontOf}
use Rattle.tap_running.specs.Texts.{text_in}

-- whether a capture that ended so was left because reading failed
abbrev pub has_failed : CpuEnd → Bool
has_failed Fault = true
has_failed Whole = false
has_failed (Damaged damage) = false

-- the entry of a capture that gave these bytes and ended so, whether or not its source was opened
abbrev pub capture_entry : List ℕ → Bool → List ℕ → CpuEnd → Entry
capture_entry its_name was_opened given end =
    record { name = its_name; opened = was_opened; bytes = given; failed = has_failed end }

-- the capture under a name gave these bytes, from its start, and ended in this way
pub record IsCapture (held : Option Contents) (name bytes : List ℕ) (end : CpuEnd) : Type 0 where
  pub front : IsFrontOf held name bytes
  -- nothing was read after damage, and at most 33,554,432 bytes and a piece of 65,536
  pub last : EndsAtDamage bytes
  pub few : length bytes ≤ 33619968
  -- if reading failed the bytes before it show no damage
  pub sound : WhereFault end (damage_of bytes ≡ None)
  -- otherwise the end is what the bytes say, and whole or cut only if they are all
  pub damage : UnlessFault end (end ≡ end_by (end_of bytes))
  pub all : WhereEnded end (IsAllOf held name bytes)

-- the capture of each CPU
abbrev pub AreCaptures : Option Contents → List CpuSetup → List (List ℕ) → List CpuEnd → Type 0
AreCaptures held [] [] [] = ⊤
AreCaptures held (cpu ∷ cpus) (bytes ∷ all) (end ∷ ends) =
    IsCapture held cpu.file bytes end × AreCaptures held cpus all ends
AreCaptures held cpus all ends = ⊥

-- how many CPUs ended with a fault
abbrev pub fault_at : CpuEnd → ℕ
fault_at Fault = 1
fault_at Whole = 0
fault_at (Damaged damage) = 0

-- each capture is whole
abbrev pub AreWhole : Contents → List CpuSetup → Type 0
AreWhole files cpus = AllByRecursion (λ cpu. end_of (text_in files cpu.file) ≡ None) cpus

-- a fresh source of what the name holds
pub record IsFresh (held : Option Contents) (name : List ℕ) (source : SourceSeen) : Type 0 where
  pub faultless : source.faults ≡ 0
  pub unread : source.given ≡ []
  pub named : source.name ≡ name
  pub left : GivesFile held name source.left
