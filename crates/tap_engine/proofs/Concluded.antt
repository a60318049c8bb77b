-- What follows from saves and a print, each of which may fail.
use Rattle.std.proofs.Common.{◌≡◌, ◌≢◌, ℕ, ◌+◌, Bool, true, false, List, [], ◌∷◌, inl}
use Rattle.std.proofs.Common.{inr, refl, sym, ◌∙◌, subst, arith, Option, None, Some}
use Rattle.std.specs.Prelude.{◌⊎◌, ◌&&◌, if◌then◌else◌}
use Rattle.capture_file.specs.declared.cpu_end.CpuEnd.{CpuEnd}
use Rattle.capture_file.specs.declared.cpu_end.CpuEnd.TheVariants.{Whole, Fault, Damaged}
use Rattle.fanout_group.specs.declared.runs.CpuLog.{CpuLog}
use Rattle.tap_outside.specs.Contents.{Contents}
use Rattle.tap_outside.specs.Seen.{SinkSeen, StoreSeen}
use Rattle.tap_saving.specs.Files.{File}
use Rattle.tap_saving.specs.Saves.{AllUnless, HoldAll, HoldUnless, HoldsNow, HoldsOldOrNew}
use Rattle.tap_saving.specs.Saves.{KeepsAllBut, Saved, SavedSome, Touches, marked}
use Rattle.tap_engine.specs.Conclusions.{Concludes, IsDone, IsFailed}
use Rattle.tap_running.specs.Prints.{IsPrinted}
use Rattle.tap_engine.specs.Findings.{files_of, lines_of, status_by_end}
use Rattle.tap_engine.specs.Findings.{status_of, status_of_logs}
use Rattle.tap_engine.specs.declared.findings.CommandResult.{CommandResult}
use Rattle.tap_engine.specs.declared.findings.CommandResult.TheVariants as finding
use Rattle.tap_engine.specs.declared.outcomes.Outcome.{Outcome}
use Rattle.tap_engine.specs.declared.outcomes.Status.{Status}
use Rattle.tap_engine.specs.declared.outcomes.Status.TheVariants as statuses

-- if none is missed all files hold their bytes
hold_all : (missed : List Bool) (before after : Option Contents) (files : List File)
    → marked missed ≡ 0
    → HoldUnless missed before after files → HoldAll before after files
hold_all [] before after [] none hold = tt
hold_all [] before after (file ∷ files) none hold = absurd hold
hold_all (true ∷ missed) before after files none hold = absurd (omega (arith, none))
hold_all (false ∷ missed) before after [] none hold = absurd hold
hold_all (false ∷ missed) before after (file ∷ files) none hold =
    (hold.0, hold_all missed before after files none hold.1)

-- the status, by whether all was saved and printed
abbrev pub status_with : Bool → Bool → Status → Status
status_with saved printed status = if saved && printed then status else statuses.WriteFault

ended : (found : CommandResult) (old new : StoreSeen) (before after : SinkSeen) (saved printed : Bool)
    → Saved old new (files_of found) saved → IsPrinted before after (lines_of found) printed
    → IsDone found (status_with saved printed (status_of found)) old new before after
    ⊎ IsFailed found (status_with saved printed (status_of found)) old new before after
ended found old new before after true true s p =
    inl (record {
      status_is = refl;
      lines = p.0;
      files = hold_all s.missed old.held new.held (files_of found) s.none_or_some s.hold;
      saves = s.faultless;
      prints = p.1;
    })
ended found old new before after true false s p =
    inr (record {
      status_is = refl;
      printed = false;
      lines = p;
      missed = s.missed;
      files = s.hold;
      counted =
          s.rose;
      cause = inr refl;
    })
ended found old new before after false printed s p =
    inr (record {
      status_is = refl;
      printed = printed;
      lines = p;
      missed = s.missed;
      files = s.hold;
      counted =
          s.rose;
      cause = inl s.none_or_some;
    })

pub ended_by : (found : CommandResult) (old new : StoreSeen) (before after : SinkSeen)
    (saved printed : Bool) (status : Status)
    → Saved old new (files_of found) saved → IsPrinted before after (lines_of found) printed
    → status ≡ status_with saved printed (status_of found)
    → IsDone found status old new before after ⊎ IsFailed found status old new before after
ended_by found old new before after saved printed status s p is =
    subst (λ (x : Status). IsDone found x old new before after ⊎ IsFailed found x old new before after)
    (sym is) (ended found old new before after saved printed s p)

-- ---- when memory ran out after all files were tried

one_early : (before after : Option Contents) (names : List (List ℕ)) (file : File)
    → KeepsAllBut before after names
    → HoldsNow before after file → HoldsOldOrNew before after file
one_early None after names file keeps h = tt
one_early (Some files) None names file keeps h = absurd keeps
one_early (Some files) (Some now) names file keeps h = inr h

all_early : (before after : Option Contents) (names : List (List ℕ)) (missed : List Bool)
    (files : List File) → KeepsAllBut before after names
    → HoldUnless missed before after files → AllUnless (HoldsOldOrNew before after) missed files
all_early before after names [] [] keeps h = tt
all_early before after names [] (file ∷ files) keeps h = absurd h
all_early before after names (true ∷ missed) [] keeps h = absurd h
all_early before after names (false ∷ missed) [] keeps h = absurd h
all_early before after names (true ∷ missed) (file ∷ files) keeps h = all_early before after names
    missed files keeps h
all_early before after names (false ∷ missed) (file ∷ files) keeps h = (
  one_early before after names file keeps h.0,
  all_early before after names missed files keeps
      h.1,
)

pub early_of : (old new : StoreSeen) (names : List (List ℕ)) (files : List File) (saved : Bool)
    → Touches old new names
    → Saved old new files saved → SavedSome old new files
early_of old new names files saved touches s = record {
  missed = s.missed;
  hold = all_early old.held new.held names s.missed files touches.others s.hold;
  rose = s.rose;
}

-- ---- no finding says that memory ran out

by_end_no_want : (cpu : ℕ) (end : CpuEnd) (rest : Status) → rest ≢ statuses.Memory
    → status_by_end cpu end rest ≢ statuses.Memory
by_end_no_want cpu Whole rest h e = h e
by_end_no_want cpu Fault rest h e = cc
by_end_no_want cpu (Damaged damage) statuses.ReadFault h e = cc
by_end_no_want cpu (Damaged damage) statuses.Fine h e = cc
by_end_no_want cpu (Damaged damage) statuses.Usage h e = cc
by_end_no_want cpu (Damaged damage) (statuses.Setup error) h e = cc
by_end_no_want cpu (Damaged damage) (statuses.Text error) h e = cc
by_end_no_want cpu (Damaged damage) (statuses.Damaged other fault) h e = cc
by_end_no_want cpu (Damaged damage) statuses.WriteFault h e = cc
by_end_no_want cpu (Damaged damage) statuses.Memory h e = cc

fine_no_want : statuses.Fine ≢ statuses.Memory
fine_no_want e = cc

logs_no_want : (cpu : ℕ) (logs : List CpuLog) → status_of_logs cpu logs ≢ statuses.Memory
logs_no_want cpu [] = fine_no_want
logs_no_want cpu (log ∷ logs) = by_end_no_want cpu log.end (status_of_logs (cpu + 1) logs)
    (logs_no_want (cpu + 1) logs)

no_want : (found : CommandResult) → status_of found ≢ statuses.Memory
no_want finding.NoCommand e = cc
no_want finding.Unread e = cc
no_want (finding.BadSetup error) e = cc
no_want (finding.BadText error) e = cc
no_want finding.Checked e = cc
no_want (finding.Ran rings setup report forwards) e = logs_no_want 0 report.cpus e
no_want (finding.Sent setup sending) e = by_end_no_want 0 sending.end statuses.Fine fine_no_want e

fault_no_want : statuses.WriteFault ≢ statuses.Memory
fault_no_want e = cc

pub no_memory : (found : CommandResult) (outcome : Outcome) (old new : StoreSeen)
    (before after : SinkSeen)
    → Concludes found outcome old new before after → outcome.status ≢ statuses.Memory
no_memory found outcome old new before after c e = by c.ended where
  by : IsDone found outcome.status old new before after
      ⊎ IsFailed found outcome.status old new before after → ⊥
  by (inl d) = no_want found (sym d.status_is ∙ e)
  by (inr f) = fault_no_want (sym f.status_is ∙ e)
