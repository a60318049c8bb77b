-- A file that was opened, read to its end and closed.
use Rattle.std.proofs.Common.{◌≡◌, ℕ, ◌+◌, Bool, true, false, List, [], ◌∷◌, Option, None, Some, refl, sym, ap, ◌∙◌, subst}
use Rattle.std.proofs.Common.{arith}
use Rattle.capture_file.specs.declared.cpu_end.CpuEnd.{CpuEnd}
use Rattle.capture_file.specs.declared.cpu_end.CpuEnd.TheVariants.{Whole, Fault, Damaged}
use Rattle.capture_reading.specs.Sources.{Gave, GaveIfThere}
use Rattle.tap_outside.specs.Contents.{Contents}
use Rattle.tap_outside.specs.Counts.{Rose}
use Rattle.tap_outside.specs.Records.{Took}
use Rattle.tap_outside.specs.Seen.{Entry, NoReadFailed, OnlyReads, SourceSeen, StoreSeen, missed_entry}
use Rattle.tap_outside.proofs.Kept.{OnlyReads-same, OnlyReads-then, NoReadFailed-then}
use Rattle.tap_outside.proofs.Taken.{took_as, took_missed, took_source}
use Rattle.tap_running.specs.Captures.{IsCapture, capture_entry, fault_at}
use Rattle.tap_running.specs.Counts.{IsCounted}
use Rattle.tap_running.specs.Files.{IsClosed, IsFetched, IsFileRead, IsMissed, IsOpened, IsTakenBack}
use Rattle.tap_running.proofs.Captures.{capture_by, entry_given, missing_capture}
use Rattle.tap_running.proofs.Counted.{counts_fetched, counts_missing}

-- one that couldn't be fetched
missed_file : (a b c : StoreSeen) (name bytes : List ℕ) (end : CpuEnd) → IsMissed a b name → c ≡ b
    → bytes ≡ [] → end ≡ Fault → IsFileRead a c name bytes end
missed_file a b c name bytes end missed same none fault =
    subst (λ (s : StoreSeen). IsFileRead a s name bytes end) (sym same) (record {
      only = missed.only;
      capture = missing_capture a.held name bytes end none fault;
      opened = false;
      given = took_as a.sources b.sources (missed_entry name) (capture_entry name false bytes end)
          (ap (λ bs. capture_entry name false bs Fault) (sym none)
          ∙ ap (λ e. capture_entry name false bytes e) (sym fault))
          (took_missed a.sources b.sources name missed.missed);
      counted = subst (λ e. IsCounted a b (fault_at e)) (sym fault) (counts_missing a b missed.rose);
    })

-- how many faults were counted of a source that was opened, read and closed
counts_read : (a b c : StoreSeen) (name bytes : List ℕ) (old new : SourceSeen) (end : CpuEnd)
    → IsOpened a b name old → Gave old new bytes end → IsTakenBack b c new
    → IsCounted a c (fault_at end)
counts_read a b c name bytes old new Whole opened gave closed =
    counts_fetched a c (NoReadFailed-then a b c opened.unfailed (record {
      only = closed.only;
      exact = λ is. closed.faultless (gave.faultless ∙ opened.fresh.faultless);
    }))
counts_read a b c name bytes old new (Damaged damage) opened gave closed =
    counts_fetched a c (NoReadFailed-then a b c opened.unfailed (record {
      only = closed.only;
      exact = λ is. closed.faultless (gave.faultless ∙ opened.fresh.faultless);
    }))
counts_read a b c name bytes old new Fault opened gave closed =
    let none = opened.fresh.faultless in
    let rose = gave.fault in
    let later = opened.unfailed.only.later in
    let here : Rose b.read_faults c.read_faults = closed.faulty (omega (arith, none, rose)) in
    counts_missing a c (omega (arith, later, here))

pub file_read : (a b c : StoreSeen) (name bytes : List ℕ) (before after : Option SourceSeen)
    (end : CpuEnd)
    → IsFetched a b name before → GaveIfThere before after bytes end → IsClosed b c after
    → IsFileRead a c name bytes end
file_read a b c name bytes None None end fetched gave closed =
    missed_file a b c name bytes end fetched closed gave.0 gave.1
file_read a b c name bytes None (Some new) end fetched gave closed = absurd gave
file_read a b c name bytes (Some old) None end fetched gave closed = absurd gave
file_read a b c name bytes (Some old) (Some new) end fetched gave closed = record {
  only = OnlyReads-then a b c fetched.unfailed.only closed.only;
  capture = capture_by a.held name bytes old new end fetched.fresh gave;
  opened = true;
  given = took_as a.sources c.sources _ (capture_entry name true bytes end)
      (entry_given a.held name old new bytes end fetched.fresh gave)
      (took_source a.sources b.sources c.sources name new fetched.opened closed.closed
      (gave.name_is ∙ fetched.fresh.named));
  counted = counts_read a b c name bytes old new end fetched gave closed;
}
