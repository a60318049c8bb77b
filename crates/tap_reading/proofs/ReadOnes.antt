-- A store after one source was fetched, read and closed.
use Rattle.std.proofs.Common.{◌≡◌, ℕ, ◌<◌, ◌≤◌, List, [], ◌∷◌, length, Option, None, Some, true, false, arith, refl, sym, ◌∙◌}
use Rattle.std.specs.Io.KnownBytes.{Consumes}
use Rattle.tap_outside.specs.Contents.{Contents, GivesFile}
use Rattle.tap_outside.specs.Counts.{Rose}
use Rattle.tap_outside.specs.Seen.{NoReadFailed, SourceSeen, StoreSeen, and_closed, and_opened, entry_of, missed_entry}
use Rattle.tap_outside.proofs.Taken.{entry_failed, entry_unfailed, none_open, none_open_same, took_as, took_missed, took_source}
use Rattle.tap_reading.specs.Fronts.{CantRead, IsFrontOf, RanOut, ReadTexts, text_entry}

-- all of it was read
pub text_read : (a b c : StoreSeen) (name text : List ℕ) (source : SourceSeen) → NoReadFailed a c
    → b.sources ≡ and_opened a.sources name
    → c.sources ≡ and_closed b.sources (entry_of source)
    → source.name ≡ name → source.given ≡ text → source.faults ≡ 0
    → ReadTexts a c (text_entry name text ∷ [])
text_read a b c name text source unfailed opened closed named gave none = record {
  unfailed = unfailed;
  took = took_as a.sources c.sources _ _ (entry_unfailed source name text named gave none)
      (took_source a.sources b.sources c.sources name source opened closed named);
}

-- memory ran out on the way
pub ran_out : (a b c : StoreSeen) (name : List ℕ) (source : SourceSeen) → NoReadFailed a c
    → b.sources ≡ and_opened a.sources name
    → c.sources ≡ and_closed b.sources (entry_of source) → source.name ≡ name → RanOut a c
ran_out a b c name source unfailed opened closed named = record {
  unfailed = unfailed;
  closed = none_open a.sources c.sources _
      (took_source a.sources b.sources c.sources name source opened closed named);
}

pub ran_out_there : (a b : StoreSeen) → NoReadFailed a b → b.sources ≡ a.sources → RanOut a b
ran_out_there a b unfailed same =
    record { unfailed = unfailed; closed = none_open_same a.sources b.sources same }

-- a text that was read is read though memory runs out since
pub ran_out_after : (a b : StoreSeen) (name text : List ℕ) → ReadTexts a b (text_entry name text ∷ [])
    → RanOut a b
ran_out_after a b name text read =
    record { unfailed = read.unfailed; closed = none_open a.sources b.sources _ read.took }

front_by : (held : Option Contents) (name bytes : List ℕ) (left new : Option (List ℕ))
    → GivesFile held name left → Consumes left new bytes → IsFrontOf held name bytes
front_by None name bytes left new gives took = tt
front_by (Some files) name bytes None new gives took = absurd gives
front_by (Some files) name bytes (Some content) None gives took = absurd took
front_by (Some files) name bytes (Some content) (Some rest) gives took =
    record { rest = rest; parts = sym gives ∙ took }

-- a read failed
pub read_failed : (a b c : StoreSeen) (name : List ℕ) (left : Option (List ℕ)) (source : SourceSeen)
    → b.sources ≡ and_opened a.sources name
    → c.sources ≡ and_closed b.sources (entry_of source)
    → source.name ≡ name → 0 < source.faults → GivesFile a.held name left
    → Consumes left source.left source.given → length source.given ≤ 1048576
    → Rose a.read_faults c.read_faults → CantRead a c name
read_failed a b c name left source opened closed named some gives took few rose = record {
  opened = true;
  given = source.given;
  took = took_as a.sources c.sources _ _ (entry_failed source name source.given named refl some)
      (took_source a.sources b.sources c.sources name source opened closed named);
  front = front_by a.held name source.given left source.left gives took;
  few = few;
  rose = rose;
}

front_none : (held : Option Contents) (name : List ℕ) → IsFrontOf held name []
front_none None name = tt
front_none (Some files) name = record { rest = _; parts = refl }

-- or the fetch
pub fetch_failed : (a b : StoreSeen) (name : List ℕ)
    → b.sources ≡ and_closed a.sources (missed_entry name) → Rose a.read_faults b.read_faults
    → CantRead a b name
fetch_failed a b name missed rose = record {
  opened = false;
  given = [];
  took = took_missed a.sources b.sources name missed;
  front = front_none a.held name;
  few = omega arith;
  rose = rose;
}
