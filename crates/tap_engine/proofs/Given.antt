-- The record of what sources gave: over several texts, and over the captures of a run.
use Rattle.std.proofs.Common.{◌≡◌, ℕ, ◌+◌, ◌<◌, Bool, true, false, List, [], ◌∷◌, ◌++◌, length, take, get_or}
use Rattle.std.proofs.Common.{Option, None, Some, refl, sym, ap, ◌∙◌, append_assoc, append-nil, arith, map, subst}
use Rattle.capture_file.specs.declared.cpu_end.CpuEnd.{CpuEnd}
use Rattle.capture_file.specs.declared.cpu_end.CpuEnd.TheVariants.{Whole, Fault, Damaged}
use Rattle.capture_reading.specs.Sources.{AllGave, Gave}
use Rattle.setup_text.specs.declared.cpu_setups.CpuSetup.{CpuSetup}
use Rattle.tap_outside.specs.Contents.{Contents}
use Rattle.tap_outside.specs.Records.{Took, opened_in}
use Rattle.tap_outside.specs.Seen.{Entry, OnlyReads, SourceSeen, SourcesSeen, StoreSeen, and_closed, and_opened}
use Rattle.tap_outside.specs.Seen.{entry_of}
use Rattle.tap_outside.specs.Seen.{missed_entry}
use Rattle.tap_outside.proofs.Taken.{entry_failed, entry_unfailed, opened_then, took_as, took_none, took_then}
use Rattle.tap_reading.specs.Fronts.{ReadTexts}
use Rattle.tap_engine.specs.Given.{AreEntries, AreGiven, given_entries, missing_entries}
use Rattle.tap_running.specs.Captures.{capture_entry, has_failed}
use Rattle.tap_running.specs.Counts.{IsCounted}
use Rattle.tap_engine.specs.inside.Sources.{AreFetched, Fetches, entries_of, missing_in, opened_files}
use Rattle.tap_running.specs.Captures.{IsFresh}
use Rattle.tap_engine.specs.inside.Sources.{with_closed}
use Rattle.tap_outside.proofs.Kept.{OnlyReads-none}
use Rattle.tap_running.proofs.Counted.{counts_none, unfailed_none}
use Rattle.tap_running.proofs.Growing.{map_more, one_more}
use Rattle.tap_running.proofs.Stores.{unfailed_then}
use Rattle.tap_running.proofs.Captures.{entry_given}

-- ---- texts, one after the other

-- ---- the captures that are fetched

grows : {A : Type 0} (a b c x y : List A) → b ≡ a ++ x → c ≡ b ++ y → c ≡ a ++ (x ++ y)
grows a b c x y first then = then ∙ ap (λ t. t ++ y) first ∙ append_assoc a x y

pub fetches_nothing : (a : SourcesSeen) → Fetches a a [] []
fetches_nothing a =
    record { closed_is = sym (append-nil a.closed); opened_is = sym (append-nil a.opened) }

pub fetched_one : (a b : SourcesSeen) (cpu : CpuSetup) (source : SourceSeen)
    → b ≡ and_opened a cpu.file → Fetches a b (cpu ∷ []) (Some source ∷ [])
fetched_one a b cpu source opened = record {
  closed_is = ap (λ (s : SourcesSeen). s.closed) opened ∙ sym (append-nil a.closed);
  opened_is = ap (λ (s : SourcesSeen). s.opened) opened;
}

pub fetched_none : (a b : SourcesSeen) (cpu : CpuSetup)
    → b ≡ and_closed a (missed_entry cpu.file) → Fetches a b (cpu ∷ []) (None ∷ [])
fetched_none a b cpu missed = record {
  closed_is = ap (λ (s : SourcesSeen). s.closed) missed;
  opened_is = ap (λ (s : SourcesSeen). s.opened) missed ∙ sym (append-nil a.opened);
}

missing_then : (held : Option Contents) (cpus later : List CpuSetup)
    (sources more : List (Option SourceSeen)) → AreFetched held cpus sources
    → missing_entries (cpus ++ later) (sources ++ more)
    ≡ missing_entries cpus sources ++ missing_entries later more
missing_then held [] later [] more fetched = refl
missing_then held [] later (s ∷ sources) more fetched = absurd fetched
missing_then held (cpu ∷ cpus) later [] more fetched = absurd fetched
missing_then held (cpu ∷ cpus) later (None ∷ sources) more fetched =
    ap (λ rest. missed_entry cpu.file ∷ rest) (missing_then held cpus later sources more fetched)
missing_then held (cpu ∷ cpus) later (Some s ∷ sources) more fetched =
    missing_then held cpus later sources more fetched.1

files_then : (held : Option Contents) (cpus later : List CpuSetup)
    (sources more : List (Option SourceSeen)) → AreFetched held cpus sources
    → opened_files (cpus ++ later) (sources ++ more)
    ≡ opened_files cpus sources ++ opened_files later more
files_then held [] later [] more fetched = refl
files_then held [] later (s ∷ sources) more fetched = absurd fetched
files_then held (cpu ∷ cpus) later [] more fetched = absurd fetched
files_then held (cpu ∷ cpus) later (None ∷ sources) more fetched =
    files_then held cpus later sources more fetched
files_then held (cpu ∷ cpus) later (Some s ∷ sources) more fetched =
    ap (λ rest. cpu.file ∷ rest) (files_then held cpus later sources more fetched.1)

fetches_then : (held : Option Contents) (cpus later : List CpuSetup)
    (sources more : List (Option SourceSeen)) (a b c : SourcesSeen) → AreFetched held cpus sources
    → Fetches a b cpus sources → Fetches b c later more
    → Fetches a c (cpus ++ later) (sources ++ more)
fetches_then held cpus later sources more a b c fetched first second = record {
  closed_is = grows a.closed b.closed c.closed _ _ first.closed_is second.closed_is
      ∙ ap (λ t. a.closed ++ t) (sym (missing_then held cpus later sources more fetched));
  opened_is = grows a.opened b.opened c.opened _ _ first.opened_is second.opened_is
      ∙ ap (λ t. a.opened ++ t) (sym (files_then held cpus later sources more fetched));
}

-- one more was fetched
pub fetches_one : {Input : Type 0} (seen : Option Input → Option SourceSeen)
    (held : Option Contents) (cpus : List CpuSetup) (at : ℕ) (cpu : CpuSetup)
    (sources more : List (Option Input)) (source : Option Input) (a b c : SourcesSeen)
    → cpu ≡ get_or cpus at cpu → at < length cpus → more ≡ sources ++ source ∷ []
    → AreFetched held (take at cpus) (map seen sources)
    → Fetches a b (take at cpus) (map seen sources) → Fetches b c (cpu ∷ []) (seen source ∷ [])
    → Fetches a c (take (at + 1) cpus) (map seen more)
fetches_one seen held cpus at cpu sources more source a b c is less added fetched before here =
    let mapped = ap (λ xs. map seen xs) added ∙ map_more seen sources source in
    rw (one_more cpus at cpu is less, mapped)
    (fetches_then held (take at cpus) (cpu ∷ []) (map seen sources) (seen source ∷ []) a b c fetched
    before here)

-- none was fetched yet
pub fetch_starts : {Input : Type 0} (seen : Option Input → Option SourceSeen)
    (held : Option Contents) (cpus : List CpuSetup) (items : List (Option Input)) (a : StoreSeen)
    → items ≡ []
    → OnlyReads a a × AreFetched held (take 0 cpus) (map seen items)
    × IsCounted a a (missing_in (map seen items))
    × Fetches a.sources a.sources (take 0 cpus) (map seen items)
fetch_starts seen held cpus items a none =
    rw none (OnlyReads-none a, tt, counts_none 0 a refl, fetches_nothing a.sources)

-- ---- those that are closed

-- nothing was closed
pub closes_nothing : (a : SourcesSeen) → a ≡ with_closed a []
closes_nothing a =
    ap (λ (entries : List Entry). record a { closed = entries }) (sym (append-nil a.closed))

-- one more was closed, of those that are left
given_first : (source : Option SourceSeen) (rest : List (Option SourceSeen))
    → given_entries (entries_of (source ∷ rest))
    ≡ given_entries (entries_of (source ∷ [])) ++ given_entries (entries_of rest)
given_first None rest = refl
given_first (Some source) rest = refl

pub closes_given : {Input : Type 0} (seen : Option Input → Option SourceSeen)
    (left rest : List (Option Input)) (source : Option Input) (all b c : SourcesSeen)
    → left ≡ source ∷ rest → with_closed b (given_entries (entries_of (map seen left))) ≡ all
    → c ≡ with_closed b (given_entries (entries_of (seen source ∷ [])))
    → with_closed c (given_entries (entries_of (map seen rest))) ≡ all
closes_given seen left rest source all b c is before here =
    let one = given_entries (entries_of (seen source ∷ [])) in
    let last = given_entries (entries_of (map seen rest)) in
    ap (λ (s : SourcesSeen). with_closed s last) here
    ∙ ap (λ (entries : List Entry). record b { closed = entries }) (append_assoc b.closed one last)
    ∙ ap (λ (t : List Entry). with_closed b t) (sym (given_first (seen source) (map seen rest)))
    ∙ ap (λ xs. with_closed b (given_entries (entries_of (map seen xs)))) (sym is) ∙ before

pub closes_all : (now all : SourcesSeen) → with_closed now [] ≡ all → now ≡ all
closes_all now all is = closes_nothing now ∙ is

-- ---- the captures of a run

pub two : {A : Type 0} (x y : A) (xs ys : List A) → x ≡ y → xs ≡ ys → x ∷ xs ≡ y ∷ ys
two x y xs ys e f = ap (λ z. z ∷ xs) e ∙ ap (λ zs. y ∷ zs) f

-- what a run's sources were and are: those that are missing stay so, and the others gave their
-- entries
record AreClosed (cpus : List CpuSetup) (old new : List (Option SourceSeen))
    (bytes : List (List ℕ)) (ends : List CpuEnd) : Type 0 where
  missing : missing_entries cpus old ≡ missing_entries cpus (entries_of new)
  unopened : opened_in (missing_entries cpus (entries_of new)) ≡ []
  opened : opened_files cpus old ≡ opened_in (given_entries (entries_of new))
  entries : AreEntries cpus bytes ends (entries_of new)

are_closed : (held : Option Contents) (cpus : List CpuSetup) (old new : List (Option SourceSeen))
    (bytes : List (List ℕ)) (ends : List CpuEnd)
    → AreFetched held cpus old → AllGave old new bytes ends → AreClosed cpus old new bytes ends
are_closed held [] [] [] [] [] fetched gave =
    record { missing = refl; unopened = refl; opened = refl; entries = tt }
are_closed held (cpu ∷ cpus) [] new bytes ends fetched gave = absurd fetched
are_closed held cpus [] [] [] (end ∷ ends) fetched gave = absurd gave
are_closed held cpus [] [] (b ∷ bytes) ends fetched gave = absurd gave
are_closed held cpus [] (n ∷ new) bytes ends fetched gave = absurd gave
are_closed held cpus (o ∷ old) [] bytes ends fetched gave = absurd gave
are_closed held cpus (o ∷ old) (n ∷ new) [] ends fetched gave = absurd gave
are_closed held cpus (o ∷ old) (n ∷ new) (b ∷ bytes) [] fetched gave = absurd gave
are_closed held [] (o ∷ old) (n ∷ new) (b ∷ bytes) (end ∷ ends) fetched gave = absurd fetched
are_closed held (cpu ∷ cpus) (None ∷ old) (None ∷ new) (b ∷ bytes) (end ∷ ends) fetched gave =
    let rest = are_closed held cpus old new bytes ends fetched gave.1 in
    record {
      missing = ap (λ entries. missed_entry cpu.file ∷ entries) rest.missing;
      unopened = rest.unopened;
      opened = rest.opened;
      entries = (gave.0, rest.entries);
    }
are_closed held (cpu ∷ cpus) (None ∷ old) (Some n ∷ new) (b ∷ bytes) (end ∷ ends) fetched gave =
    absurd gave.0
are_closed held (cpu ∷ cpus) (Some o ∷ old) (None ∷ new) (b ∷ bytes) (end ∷ ends) fetched gave =
    absurd gave.0
are_closed held (cpu ∷ cpus) (Some o ∷ old) (Some n ∷ new) (b ∷ bytes) (end ∷ ends) fetched gave =
    let rest = are_closed held cpus old new bytes ends fetched.1 gave.1 in
    let entry = entry_given held cpu.file o n b end fetched.0 gave.0 in
    record {
      missing = rest.missing;
      unopened = rest.unopened;
      opened = two cpu.file n.name _ _ (sym (gave.0.name_is ∙ fetched.0.named)) rest.opened;
      entries = (entry, rest.entries);
    }

pub run_given : (held : Option Contents) (cpus : List CpuSetup) (old new : List (Option SourceSeen))
    (bytes : List (List ℕ)) (ends : List CpuEnd) (a b c : SourcesSeen)
    → AreFetched held cpus old → AllGave old new bytes ends → Fetches a b cpus old
    → c ≡ with_closed b (given_entries (entries_of new)) → AreGiven a c cpus bytes ends
run_given held cpus old new bytes ends a b c fetched gave opened closed =
    let are = are_closed held cpus old new bytes ends fetched gave in
    let missing = missing_entries cpus (entries_of new) in
    let given = given_entries (entries_of new) in
    record {
      sources = entries_of new;
      entries = are.entries;
      took = record {
        closed_is = grows a.closed b.closed c.closed missing given
            (opened.closed_is ∙ ap (λ t. a.closed ++ t) are.missing)
            (ap (λ (s : SourcesSeen). s.closed) closed);
        opened_is = ap (λ (s : SourcesSeen). s.opened) closed ∙ opened.opened_is
            ∙ ap (λ t. a.opened ++ t) (are.opened ∙ ap (λ t. t ++ opened_in given) (sym are.unopened)
            ∙ sym (opened_then missing given));
      };
    }

-- the only one of them
pub one_given : (a c : SourcesSeen) (cpu : CpuSetup) (bytes : List ℕ) (end : CpuEnd)
    → AreGiven a c (cpu ∷ []) (bytes ∷ []) (end ∷ [])
    → (opened : Bool) × Took a c (capture_entry cpu.file opened bytes end ∷ [])
one_given a c cpu bytes end g = by g.sources g.entries g.took where
  missed : bytes ≡ [] → end ≡ Fault → missed_entry cpu.file ≡ capture_entry cpu.file false bytes end
  missed none is = ap (λ b. capture_entry cpu.file false b Fault) (sym none)
      ∙ ap (λ e. capture_entry cpu.file false bytes e) (sym is)

  by : (sources : List (Option Entry)) → AreEntries (cpu ∷ []) (bytes ∷ []) (end ∷ []) sources
      → Took a c (missing_entries (cpu ∷ []) sources ++ given_entries sources)
      → (opened : Bool) × Took a c (capture_entry cpu.file opened bytes end ∷ [])
  by [] entries took = absurd entries
  by (None ∷ []) entries took = (false, took_as a c _ _ (missed entries.0.0 entries.0.1) took)
  by (Some entry ∷ []) entries took = (true, took_as a c _ _ entries.0 took)
  by (None ∷ source ∷ sources) entries took = absurd entries.1
  by (Some entry ∷ source ∷ sources) entries took = absurd entries.1
