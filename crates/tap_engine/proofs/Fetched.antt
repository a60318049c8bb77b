-- The captures of a run are those of its sources, and its faults those of the store.
use Rattle.std.proofs.Common.{◌≡◌, ℕ, suc, ◌+◌, ◌<◌, ◌≤◌, Bool, true, false, List, [], ◌∷◌, ◌++◌}
use Rattle.std.proofs.Common.{length, take, get_or, Option, None, Some, refl, sym, ap, ◌∙◌, subst}
use Rattle.std.proofs.Common.{arith, add-one, append-nil}
use Rattle.std.specs.Prelude.{◌==◌, if◌then◌else◌, map, unwrap_or}
use Rattle.std.specs.Io.KnownBytes.{Consumes, IsAtEnd}
use Rattle.std.proofs.lemmas.Bool.{eqb-true}
use Rattle.std.proofs.Math.Seq.{take-suc}
use Rattle.capture_file.specs.Capture.{damage_of, end_of}
use Rattle.capture_file.proofs.Formats.{brief}
use Rattle.capture_file.specs.declared.error.CaptureError.TheVariants as errors
use Rattle.capture_file.specs.declared.cpu_end.CpuEnd.{CpuEnd}
use Rattle.capture_file.specs.declared.cpu_end.CpuEnd.TheVariants.{Whole, Fault, Damaged}
use Rattle.fanout_group.specs.declared.runs.CpuLog.{CpuLog}
use Rattle.setup_text.specs.declared.cpu_setups.CpuSetup.{CpuSetup}
use Rattle.tap_outside.specs.Contents.{Contents, GivesFile}
use Rattle.tap_outside.specs.Counts.{Rose, RoseBy}
use Rattle.tap_reading.specs.Fronts.{IsAllOf, IsFrontOf}
use Rattle.capture_reading.specs.Sources.{AllGave, EndsAtDamage, Gave, UnlessFault, WhereEnded}
use Rattle.capture_reading.specs.Sources.{WhereFault, end_by}
use Rattle.tap_outside.specs.Seen.{NoReadFailed, OnlyReads, SourceSeen, StoreSeen}
use Rattle.tap_running.specs.Captures.{fault_at}
use Rattle.tap_engine.specs.Findings.{faults_in}
use Rattle.tap_running.specs.Captures.{AreCaptures, IsCapture}
use Rattle.tap_engine.specs.inside.Sources.{AreFetched, faulty_in, missing_in}
use Rattle.tap_running.specs.Captures.{IsFresh}
use Rattle.tap_engine.proofs.Ends.{AreEnds}
use Rattle.tap_running.proofs.Captures.{capture_by, fault_counts, missing_capture, one_at_most}

-- ---- counts

-- ---- fetching

pub fetched_more : (held : Option Contents) (cpus : List CpuSetup)
    (sources : List (Option SourceSeen)) (cpu : CpuSetup) (source : Option SourceSeen)
    → AreFetched held cpus sources → AreFetched held (cpu ∷ []) (source ∷ [])
    → AreFetched held (cpus ++ cpu ∷ []) (sources ++ source ∷ [])
fetched_more held [] [] cpu source all one = one
fetched_more held [] (first ∷ sources) cpu source all one = absurd all
fetched_more held (first ∷ cpus) [] cpu source all one = absurd all
fetched_more held (first ∷ cpus) (None ∷ sources) cpu source all one = fetched_more held cpus
    sources cpu source all one
fetched_more held (first ∷ cpus) (Some x ∷ sources) cpu source all one =
    (all.0, fetched_more held cpus sources cpu source all.1 one)

pub missing_more : (sources : List (Option SourceSeen)) (source : Option SourceSeen)
    → missing_in (sources ++ source ∷ []) ≡ missing_in sources + missing_in (source ∷ [])
missing_more [] source = omega arith
missing_more (None ∷ sources) source = let rest = missing_more sources source in omega (arith, rest)
missing_more (Some x ∷ sources) source = missing_more sources source

pub faulty_more : (sources : List (Option SourceSeen)) (source : Option SourceSeen)
    → faulty_in (sources ++ source ∷ []) ≡ faulty_in sources + faulty_in (source ∷ [])
faulty_more [] source = omega arith
faulty_more (None ∷ sources) source = faulty_more sources source
faulty_more (Some x ∷ sources) source = let rest = faulty_more sources source in omega (arith, rest)

pub as_many : (held : Option Contents) (cpus : List CpuSetup) (sources : List (Option SourceSeen))
    → AreFetched held cpus sources → length sources ≡ length cpus
as_many held [] [] all = refl
as_many held [] (x ∷ sources) all = absurd all
as_many held (cpu ∷ cpus) [] all = absurd all
as_many held (cpu ∷ cpus) (None ∷ sources) all = ap suc (as_many held cpus sources all)
as_many held (cpu ∷ cpus) (Some x ∷ sources) all = ap suc (as_many held cpus sources all.1)

-- ---- what the captures gave

pub captures_are : (held : Option Contents) (cpus : List CpuSetup)
    (old new : List (Option SourceSeen)) (bytes : List (List ℕ)) (ends : List CpuEnd)
    → AreFetched held cpus old → AllGave old new bytes ends → AreCaptures held cpus bytes ends
captures_are held [] [] [] [] [] fetched gave = tt
captures_are held [] [] [] [] (end ∷ ends) fetched gave = absurd gave
captures_are held [] [] [] (b ∷ bytes) ends fetched gave = absurd gave
captures_are held [] [] (n ∷ new) bytes ends fetched gave = absurd gave
captures_are held [] (o ∷ old) new bytes ends fetched gave = absurd fetched
captures_are held (cpu ∷ cpus) [] new bytes ends fetched gave = absurd fetched
captures_are held (cpu ∷ cpus) (o ∷ old) [] bytes ends fetched gave = absurd gave
captures_are held (cpu ∷ cpus) (o ∷ old) (n ∷ new) [] ends fetched gave = absurd gave
captures_are held (cpu ∷ cpus) (o ∷ old) (n ∷ new) (b ∷ bytes) [] fetched gave = absurd gave
captures_are held (cpu ∷ cpus) (None ∷ old) (None ∷ new) (b ∷ bytes) (end ∷ ends) fetched gave = (
  missing_capture held cpu.file b end gave.0.0 gave.0.1,
  captures_are held cpus old new bytes
      ends fetched gave.1,
)
captures_are held (cpu ∷ cpus) (None ∷ old) (Some n ∷ new) (b ∷ bytes) (end ∷ ends) fetched gave =
    absurd gave.0
captures_are held (cpu ∷ cpus) (Some o ∷ old) (None ∷ new) (b ∷ bytes) (end ∷ ends) fetched gave =
    absurd gave.0
captures_are held (cpu ∷ cpus) (Some o ∷ old) (Some n ∷ new) (b ∷ bytes) (end ∷ ends) all gave = (
  capture_by held cpu.file b o n end all.0 gave.0,
  captures_are held cpus old new bytes ends all.1 gave.1,
)

-- as many bytes and ends as CPUs
pub bytes_as_many : (old new : List (Option SourceSeen)) (bytes : List (List ℕ))
    (ends : List CpuEnd) → AllGave old new bytes ends
    → (length bytes ≡ length old) × (length ends ≡ length old)
bytes_as_many [] [] [] [] gave = (refl, refl)
bytes_as_many [] [] [] (end ∷ ends) gave = absurd gave
bytes_as_many [] [] (b ∷ bytes) ends gave = absurd gave
bytes_as_many [] (n ∷ new) bytes ends gave = absurd gave
bytes_as_many (o ∷ old) [] bytes ends gave = absurd gave
bytes_as_many (o ∷ old) (n ∷ new) [] ends gave = absurd gave
bytes_as_many (o ∷ old) (n ∷ new) (b ∷ bytes) [] gave = absurd gave
bytes_as_many (o ∷ old) (n ∷ new) (b ∷ bytes) (end ∷ ends) gave =
    let rest = bytes_as_many old new bytes ends gave.1 in (ap suc rest.0, ap suc rest.1)

-- ---- no more captures end with a fault than couldn't be fetched or had one

pub faults_are : (held : Option Contents) (setups : List CpuSetup)
    (old new : List (Option SourceSeen)) (bytes : List (List ℕ)) (ends : List CpuEnd)
    (logs : List CpuLog)
    → AreFetched held setups old → AllGave old new bytes ends → AreEnds logs ends
    → faults_in logs ≤ missing_in old + faulty_in new
faults_are held setups old new bytes ends [] fetched gave are = omega arith
faults_are held setups old new bytes [] (log ∷ logs) fetched gave are = absurd are
faults_are held setups [] [] [] (end ∷ ends) (log ∷ logs) fetched gave are = absurd gave
faults_are held setups [] [] (b ∷ bytes) (end ∷ ends) (log ∷ logs) fetched gave are = absurd gave
faults_are held setups [] (n ∷ new) bytes (end ∷ ends) (log ∷ logs) fetched gave are = absurd gave
faults_are held setups (o ∷ old) [] bytes (end ∷ ends) (log ∷ logs) fetched gave are = absurd gave
faults_are held setups (o ∷ old) (n ∷ new) [] (end ∷ ends) (log ∷ logs) fetched gave are = absurd
    gave
faults_are held [] (o ∷ old) (n ∷ new) (b ∷ bytes) (end ∷ ends) (log ∷ logs) fetched gave are =
    absurd fetched
faults_are held (s ∷ setups) (None ∷ old) (None ∷ new) (b ∷ bytes) (end ∷ ends) (log ∷ logs) fetched
    gave are =
    let rest = faults_are held setups old new bytes ends logs fetched gave.1 are.1 in
    let one = one_at_most log.end in omega (arith, rest, one)
faults_are held (s ∷ setups) (None ∷ old) (Some n ∷ new) (b ∷ bytes) (end ∷ ends) (log ∷ logs)
    fetched gave are = absurd gave.0
faults_are held (s ∷ setups) (Some o ∷ old) (None ∷ new) (b ∷ bytes) (end ∷ ends) (log ∷ logs)
    fetched gave are = absurd gave.0
faults_are held (s ∷ setups) (Some o ∷ old) (Some n ∷ new) (b ∷ bytes) (end ∷ ends) (log ∷ logs)
    fetched gave are =
    let rest = faults_are held setups old new bytes ends logs fetched.1 gave.1 are.1 in
    let same : fault_at log.end ≡ fault_at end = ap fault_at are.0 in
    let one = fault_counts end o n fetched.0.faultless gave.0.fault in omega
    (arith, rest, one, same)

-- ---- a store that is only read

-- ---- a store of which no read failed
