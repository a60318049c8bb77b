-- The faults of reading that a store counted: for one read text or capture, for several, and for a
-- run.
use Rattle.std.proofs.Common.{◌≡◌, ℕ, ◌+◌, ◌<◌, ◌≤◌, Bool, true, false, List, [], ◌∷◌, ◌++◌}
use Rattle.std.proofs.Common.{length, take, get_or, Option, None, Some, refl, sym, ap, ◌∙◌, subst}
use Rattle.std.proofs.Common.{arith}
use Rattle.std.specs.Prelude.{◌==◌, if◌then◌else◌, map}
use Rattle.std.proofs.lemmas.Bool.{eqb-false, eqb-true}
use Rattle.capture_file.specs.declared.cpu_end.CpuEnd.{CpuEnd}
use Rattle.capture_file.specs.declared.cpu_end.CpuEnd.TheVariants.{Whole, Fault, Damaged}
use Rattle.capture_reading.specs.Sources.{AllGave, UnlessFault}
use Rattle.fanout_group.specs.declared.runs.CpuLog.{CpuLog}
use Rattle.setup_text.specs.declared.cpu_setups.CpuSetup.{CpuSetup}
use Rattle.tap_outside.specs.Contents.{Contents}
use Rattle.tap_outside.specs.Counts.{Rose}
use Rattle.tap_outside.specs.Seen.{NoReadFailed, OnlyReads, SourceSeen, StoreSeen}
use Rattle.tap_running.specs.Counts.{IsCounted}
use Rattle.tap_running.specs.Captures.{fault_at}
use Rattle.tap_engine.specs.Findings.{faults_in}
use Rattle.tap_engine.specs.inside.Sources.{AreFetched, faulty_in, missing_in}
use Rattle.tap_engine.proofs.Ends.{AreEnds}
use Rattle.tap_engine.proofs.Fetched.{faults_are, fetched_more, missing_more}
use Rattle.tap_running.proofs.Growing.{map_more, one_more}
use Rattle.tap_running.proofs.Stores.{rose_earlier, rose_less, rose_then, unfailed_then}
use Rattle.tap_running.proofs.Captures.{fault_is, unfaulted}
use Rattle.tap_running.proofs.Counted.{closed_by, counts_less, counts_none, counts_then, no_sum, reads_none}

-- ---- a store from which nothing was read

-- ---- one after another

-- ---- a fetch, and a close

pub counts_closed : (source : SourceSeen) (a b : StoreSeen) → OnlyReads a b
    → (source.faults ≡ 0 → b.read_faults ≡ a.read_faults)
    → (0 < source.faults → Rose a.read_faults b.read_faults)
    → IsCounted a b (faulty_in (Some source ∷ []))
counts_closed source a b only kept rose =
    closed_by source.faults (source.faults == 0) a b refl only kept rose

-- ---- the captures of the CPUs so far, and of one more

pub goes_on : {Input : Type 0} (seen : Option Input → Option SourceSeen)
    (held now : Option Contents) (cpus : List CpuSetup) (at : ℕ) (cpu : CpuSetup)
    (sources more : List (Option Input)) (source : Option Input) (a b c : StoreSeen)
    → now ≡ held → cpu ≡ get_or cpus at cpu → at < length cpus → more ≡ sources ++ source ∷ []
    → AreFetched held (take at cpus) (map seen sources)
    → AreFetched now (cpu ∷ []) (seen source ∷ [])
    → IsCounted a b (missing_in (map seen sources))
    → IsCounted b c (missing_in (seen source ∷ []))
    → AreFetched held (take (at + 1) cpus) (map seen more)
    × IsCounted a c (missing_in (map seen more))
goes_on seen held now cpus at cpu sources more source a b c same is less added all one h k =
    let mapped = ap (λ xs. map seen xs) added ∙ map_more seen sources source in
    let one_held : AreFetched held (cpu ∷ []) (seen source ∷ []) = subst
    (λ (o : Option Contents). AreFetched o (cpu ∷ []) (seen source ∷ [])) same one in (
      rw (one_more cpus at cpu is less, mapped) (fetched_more held (take at cpus) (map seen sources)
          cpu (seen source) all one_held),
      rw (mapped, missing_more (map seen sources) (seen source))
          (counts_then (missing_in (map seen sources)) (missing_in (seen source ∷ [])) a b c h k),
    )

-- ---- the sources that are closed so far, and one more

pub closes_none : {Input : Type 0} (seen : Option Input → Option SourceSeen)
    (all left : List (Option Input)) (a : StoreSeen) → left ≡ all
    → OnlyReads a a × (n : ℕ) × (faulty_in (map seen all) ≡ n + faulty_in (map seen left))
    × IsCounted a a n
closes_none seen all left a same =
    let count = ap (λ xs. faulty_in (map seen xs)) same in
    (reads_none a, 0, omega (arith, count), counts_none 0 a refl)

faulty_front : (source : Option SourceSeen) (rest : List (Option SourceSeen))
    → faulty_in (source ∷ rest) ≡ faulty_in (source ∷ []) + faulty_in rest
faulty_front None rest = omega arith
faulty_front (Some source) rest = omega arith

pub closes_one : {Input : Type 0} (seen : Option Input → Option SourceSeen)
    (all left rest : List (Option Input)) (source : Option Input) (n : ℕ) (a b c : StoreSeen)
    → faulty_in (map seen all) ≡ n + faulty_in (map seen left) → left ≡ source ∷ rest
    → IsCounted a b n → IsCounted b c (faulty_in (seen source ∷ []))
    → (m : ℕ) × (faulty_in (map seen all) ≡ m + faulty_in (map seen rest)) × IsCounted a c m
closes_one seen all left rest source n a b c counted is h k =
    let front = faulty_front (seen source) (map seen rest) in
    let here = ap (λ xs. faulty_in (map seen xs)) is ∙ front in (
      n + faulty_in (seen source ∷ []),
      omega (arith, counted, here),
      counts_then n (faulty_in (seen source ∷ [])) a b c h k,
    )

-- ---- a run's CPUs

abbrev faulty_by : ℕ → ℕ
faulty_by faults = if faults == 0 then 0 else 1

not_faulty : (faults : ℕ) → faults ≡ 0 → faulty_by faults ≡ 0
not_faulty faults none = ap faulty_by none

none_failed : (held : Option Contents) (setups : List CpuSetup)
    (old new : List (Option SourceSeen)) (bytes : List (List ℕ)) (ends : List CpuEnd)
    (logs : List CpuLog)
    → AreFetched held setups old → AllGave old new bytes ends → AreEnds logs ends
    → faults_in logs ≡ 0 → missing_in old + faulty_in new ≡ 0
none_failed held setups [] [] [] [] logs fetched gave are none = omega arith
none_failed held setups [] [] [] (end ∷ ends) logs fetched gave are none = absurd gave
none_failed held setups [] [] (b ∷ bytes) ends logs fetched gave are none = absurd gave
none_failed held setups [] (n ∷ new) bytes ends logs fetched gave are none = absurd gave
none_failed held setups (o ∷ old) [] bytes ends logs fetched gave are none = absurd gave
none_failed held setups (o ∷ old) (n ∷ new) [] ends logs fetched gave are none = absurd gave
none_failed held setups (o ∷ old) (n ∷ new) (b ∷ bytes) [] logs fetched gave are none = absurd gave
none_failed held setups (o ∷ old) (n ∷ new) (b ∷ bytes) (end ∷ ends) [] fetched gave are none =
    absurd are
none_failed held [] (o ∷ old) (n ∷ new) (b ∷ bytes) (end ∷ ends) (log ∷ logs) fetched gave are none
    = absurd fetched
none_failed held (s ∷ setups) (None ∷ old) (None ∷ new) (b ∷ bytes) (end ∷ ends) (log ∷ logs)
    fetched gave are none =
    let one = fault_is log.end (are.0 ∙ gave.0.1) in absurd (omega (arith, one, none))
none_failed held (s ∷ setups) (None ∷ old) (Some n ∷ new) (b ∷ bytes) (end ∷ ends) (log ∷ logs)
    fetched gave are none = absurd gave.0
none_failed held (s ∷ setups) (Some o ∷ old) (None ∷ new) (b ∷ bytes) (end ∷ ends) (log ∷ logs)
    fetched gave are none = absurd gave.0
none_failed held (s ∷ setups) (Some o ∷ old) (Some n ∷ new) (b ∷ bytes) (end ∷ ends) (log ∷ logs)
    fetched gave are none =
    let both = no_sum (fault_at log.end) (faults_in logs) none in
    let rest = none_failed held setups old new bytes ends logs fetched.1 gave.1 are.1 both.1 in
    let whole : fault_at end ≡ 0 = ap fault_at (sym are.0) ∙ both.0 in
    let one = not_faulty n.faults
    (unfaulted end (n.faults ≡ o.faults) whole gave.0.faultless ∙ fetched.0.faultless) in
    omega (arith, rest, one)

-- the faults of a run's CPUs are those of its sources
pub counts_run : (held : Option Contents) (setups : List CpuSetup)
    (old new : List (Option SourceSeen)) (bytes : List (List ℕ)) (ends : List CpuEnd)
    (logs : List CpuLog) (a b c : StoreSeen)
    → AreFetched held setups old → AllGave old new bytes ends → AreEnds logs ends
    → IsCounted a b (missing_in old) → IsCounted b c (faulty_in new)
    → IsCounted a c (faults_in logs)
counts_run held setups old new bytes ends logs a b c fetched gave are missing faulty =
    counts_less (faults_in logs) (missing_in old + faulty_in new) a c
    (faults_are held setups old new bytes ends logs fetched gave are)
    (none_failed held setups old new bytes ends logs fetched gave are)
    (counts_then (missing_in old) (faulty_in new) a b c missing faulty)
