-- Everything that an answer guarantees, by what was found or when memory ran out.
use Rattle.std.proofs.Common.{◌≡◌, ◌≢◌, ℕ, ◌≤◌, ◌+◌, Bool, true, false, List, [], ◌∷◌, Option, None, Some, inl, inr}
use Rattle.std.proofs.Common.{refl, sym, ap, ◌∙◌, subst, arith}
use Rattle.std.specs.Prelude.{◌⊎◌, Ok}
use Rattle.capture_file.specs.declared.cpu_end.CpuEnd.{CpuEnd}
use Rattle.capture_file.specs.declared.cpu_end.CpuEnd.TheVariants.{Damaged, Fault, Whole}
use Rattle.size_printing.specs.declared.size_reports.ReadFile.{ReadFile}
use Rattle.size_printing.specs.declared.size_reports.SizeReport.{SizeReport}
use Rattle.tap_outside.specs.Counts.{Rose}
use Rattle.tap_outside.specs.Seen.{NoReadFailed, SinkSeen, StoreSeen}
use Rattle.tap_running.specs.Captures.{fault_at}
use Rattle.tap_running.specs.Prints.{IsLastLine, IsPrinted}
use Rattle.tap_sizes.specs.Endings.{IsConcluded, IsFaultless, IsSizeSearched}
use Rattle.tap_sizes.specs.Endings.{IsStopped, IsWorth, NoneCounted, Tells, status_with}
use Rattle.tap_sizes.specs.Readings.{file_faults}
use Rattle.tap_sizes.specs.SizeFindings.{IsSizeFound, report_in, status_by_end, status_of, status_of_files}
use Rattle.tap_sizes.specs.SizeWords.{SizeNamed}
use Rattle.tap_sizes.specs.declared.outcomes.SizeOutcome.{SizeOutcome}
use Rattle.tap_sizes.specs.declared.outcomes.SizeStatus.{SizeStatus}
use Rattle.tap_sizes.specs.declared.outcomes.SizeStatus.TheVariants as statuses
use Rattle.tap_sizes.specs.declared.size_findings.SizeFinding.{SizeFinding}
use Rattle.tap_sizes.specs.declared.size_findings.SizeFinding.TheVariants as finding
use Rattle.tap_sizes.specs.inside.SizeAnswers.{IsAnswer}
use Rattle.tap_sizes.proofs.Completed.{complete_of}
use Rattle.tap_sizes.proofs.Clean.{clean_asked, clean_bad_filter, clean_bad_reader, clean_bad_setup, found_closed}

-- ---- the report

worth_in : (a b : StoreSeen) (command : Option SizeNamed) (found : SizeFinding)
    → IsSizeFound command a b found → IsWorth command a b (report_in found)
worth_in a b None finding.NoNames h = tt
worth_in a b None finding.Unread h = absurd h
worth_in a b None (finding.BadSetup error) h = absurd h
worth_in a b None (finding.BadFilter error) h = absurd h
worth_in a b None (finding.BadReader error) h = absurd h
worth_in a b None (finding.Unanswered why) h = absurd h
worth_in a b None (finding.TooLong files) h = absurd h
worth_in a b None (finding.Sized kind unit report) h = absurd h
worth_in a b (Some named) finding.NoNames h = absurd h
worth_in a b (Some named) finding.Unread h = tt
worth_in a b (Some named) (finding.BadSetup error) h = tt
worth_in a b (Some named) (finding.BadFilter error) h = tt
worth_in a b (Some named) (finding.BadReader error) h = tt
worth_in a b (Some named) (finding.Unanswered why) h = tt
worth_in a b (Some named) (finding.TooLong files) h = tt
worth_in a b (Some named) (finding.Sized kind unit report) h = (named, refl, kind, unit, h.0)

-- ---- no status but one says that memory ran out

end_no_want : (cpu : ℕ) (end : CpuEnd) (rest : SizeStatus) → rest ≢ statuses.Memory
    → status_by_end cpu end rest ≢ statuses.Memory
end_no_want cpu Whole rest h e = h e
end_no_want cpu Fault rest h e = cc
end_no_want cpu (Damaged damage) statuses.ReadFault h e = cc
end_no_want cpu (Damaged damage) statuses.Fine h e = cc
end_no_want cpu (Damaged damage) statuses.Usage h e = cc
end_no_want cpu (Damaged damage) (statuses.Setup error) h e = cc
end_no_want cpu (Damaged damage) (statuses.Text error) h e = cc
end_no_want cpu (Damaged damage) (statuses.Reader error) h e = cc
end_no_want cpu (Damaged damage) (statuses.Unanswered why) h e = cc
end_no_want cpu (Damaged damage) statuses.TooLong h e = cc
end_no_want cpu (Damaged damage) (statuses.Damaged other fault) h e = cc
end_no_want cpu (Damaged damage) statuses.WriteFault h e = cc
end_no_want cpu (Damaged damage) statuses.Memory h e = cc

files_no_want : (files : List ReadFile) (last : SizeStatus) → last ≢ statuses.Memory
    → status_of_files files last ≢ statuses.Memory
files_no_want [] last h e = h e
files_no_want (file ∷ files) last h e =
    end_no_want file.cpu file.end (status_of_files files last) (files_no_want files last h) e

fine_no_want : statuses.Fine ≢ statuses.Memory
fine_no_want e = cc

long_no_want : statuses.TooLong ≢ statuses.Memory
long_no_want e = cc

no_want : (found : SizeFinding) → status_of found ≢ statuses.Memory
no_want finding.NoNames e = cc
no_want finding.Unread e = cc
no_want (finding.BadSetup error) e = cc
no_want (finding.BadFilter error) e = cc
no_want (finding.BadReader error) e = cc
no_want (finding.Unanswered why) e = cc
no_want (finding.TooLong files) e = files_no_want files statuses.TooLong long_no_want e
no_want (finding.Sized kind unit report) e =
    files_no_want report.files statuses.Fine fine_no_want e

write_no_want : statuses.WriteFault ≢ statuses.Memory
write_no_want e = cc

ended_no_want : (printed : Bool) (found : SizeFinding)
    → status_with printed (status_of found) ≢ statuses.Memory
ended_no_want true found e = no_want found e
ended_no_want false found e = write_no_want e

-- ---- if a fault was counted the status says so

fault_stays : (cpu : ℕ) (end : CpuEnd) (rest : SizeStatus) → rest ≡ statuses.ReadFault
    → status_by_end cpu end rest ≡ statuses.ReadFault
fault_stays cpu Whole rest is = is
fault_stays cpu Fault rest is = refl
fault_stays cpu (Damaged damage) rest is = ap (λ s. status_by_end cpu (Damaged damage) s) is

no_fault_at : (cpu : ℕ) (end : CpuEnd) (rest : SizeStatus)
    → status_by_end cpu end rest ≢ statuses.ReadFault → fault_at end ≡ 0
no_fault_at cpu Whole rest other = refl
no_fault_at cpu Fault rest other = absurd (other refl)
no_fault_at cpu (Damaged damage) rest other = refl

no_faults_in : (files : List ReadFile) (last : SizeStatus)
    → status_of_files files last ≢ statuses.ReadFault → file_faults files ≡ 0
no_faults_in [] last other = refl
no_faults_in (file ∷ files) last other =
    let here = no_fault_at file.cpu file.end (status_of_files files last) other in
    let rest = no_faults_in files last
    (λ is. other (fault_stays file.cpu file.end (status_of_files files last) is)) in
    omega (arith, here, rest)

no_read_failed : (a b : StoreSeen) (command : Option SizeNamed) (found : SizeFinding)
    → IsSizeFound command a b found → status_of found ≢ statuses.ReadFault → NoReadFailed a b
no_read_failed a b None finding.NoNames h other = h.unfailed
no_read_failed a b None finding.Unread h other = absurd h
no_read_failed a b None (finding.BadSetup error) h other = absurd h
no_read_failed a b None (finding.BadFilter error) h other = absurd h
no_read_failed a b None (finding.BadReader error) h other = absurd h
no_read_failed a b None (finding.Unanswered why) h other = absurd h
no_read_failed a b None (finding.TooLong files) h other = absurd h
no_read_failed a b None (finding.Sized kind unit report) h other = absurd h
no_read_failed a b (Some named) finding.NoNames h other = absurd h
no_read_failed a b (Some named) finding.Unread h other = absurd (other refl)
no_read_failed a b (Some named) (finding.BadSetup error) h other =
    (clean_bad_setup a b named error h).unfailed
no_read_failed a b (Some named) (finding.BadFilter error) h other =
    (clean_bad_filter a b named error h).unfailed
no_read_failed a b (Some named) (finding.BadReader error) h other =
    (clean_bad_reader a b named error h).unfailed
no_read_failed a b (Some named) (finding.Unanswered why) h other =
    (clean_asked a b named h.job h.reader h.asked).unfailed
no_read_failed a b (Some named) (finding.TooLong files) h other =
    h.1.faultless (no_faults_in files statuses.TooLong other)
no_read_failed a b (Some named) (finding.Sized kind unit report) h other =
    h.1.faultless (no_faults_in report.files statuses.Fine other)

printed_faultless : (printed : Bool) (found : SizeFinding) (a b : StoreSeen)
    (before after : SinkSeen) (lines : List ℕ)
    → IsPrinted before after lines printed
    → (status_with printed (status_of found) ≢ statuses.ReadFault)
    → (status_with printed (status_of found) ≢ statuses.WriteFault)
    → (status_of found ≢ statuses.ReadFault → NoReadFailed a b) → NoneCounted a b before after
printed_faultless true found a b before after lines is read write kept =
    record { reads = (kept read).exact; prints = is.1 }
printed_faultless false found a b before after lines is read write kept = absurd (write refl)

faultless_of : (command : Option SizeNamed) (outcome : SizeOutcome) (a b : StoreSeen)
    (before after : SinkSeen) → Tells command outcome a b before after
    → IsFaultless a b before after outcome.status
faultless_of command outcome a b before after t = λ read write other.
    printed_faultless t.concluded.printed t.finding a b before after _ t.concluded.lines
    (λ is. read (t.concluded.status_is ∙ is)) (λ is. write (t.concluded.status_is ∙ is))
    (no_read_failed a b command t.finding t.found)

-- ---- what is answered

pub told : (command : Option SizeNamed) (outcome : SizeOutcome) (a b : StoreSeen)
    (before after : SinkSeen) → Tells command outcome a b before after
    → IsAnswer command outcome a b before after
told command outcome a b before after t = record {
  headline = subst (λ (r : Option SizeReport). IsWorth command a b r) (sym t.concluded.report_is)
      (worth_in a b command t.finding t.found);
  told = λ status. t;
  gave_up = λ memory.
      absurd (ended_no_want t.concluded.printed t.finding (sym t.concluded.status_is ∙ memory));
  complete = complete_of command outcome a b before after t;
  faultless = faultless_of command outcome a b before after t;
}

pub tells : (command : Option SizeNamed) (outcome : SizeOutcome) (a b : StoreSeen)
    (before after : SinkSeen) (found : SizeFinding)
    → IsSizeSearched command a b (Ok found) → IsConcluded found outcome before after
    → Tells command outcome a b before after
tells command outcome a b before after found searched concluded = record {
  reads = searched.reads;
  closed = found_closed a b command found searched.found;
  finding = found;
  found = searched.found;
  concluded = concluded;
}

-- before the last line no write failed
none_yet : (command : Option SizeNamed) (a b : StoreSeen) (before between : SinkSeen)
    → IsStopped command a b before between → between.faults ≡ before.faults
none_yet command a b before between (inl cut) = ap (λ (s : SinkSeen). s.faults) cut.1
none_yet command a b before between (inr short) = short.printed.faultless

-- nor did fewer writes run out of memory, so what was counted since was counted
last_after : (command : Option SizeNamed) (a b : StoreSeen) (before between after : SinkSeen)
    → IsStopped command a b before between → IsLastLine between between after
    → IsLastLine before between after
last_after command a b before between after stopped (inl all) = inl all
last_after command a b before between after stopped (inr some) =
    inr (some.0, counted some.1 (by stopped)) where
      by : IsStopped command a b before between
          → (between.refused ≡ before.refused) ⊎ Rose before.refused between.refused
      by (inl cut) = inl (ap (λ (s : SinkSeen). s.refused) cut.1)
      by (inr short) = short.printed.refused

      counted : Rose between.faults after.faults ⊎ Rose between.refused after.refused
          → (between.refused ≡ before.refused) ⊎ Rose before.refused between.refused
          → Rose before.faults after.faults ⊎ Rose before.refused after.refused
      counted (inl rose) first =
          let still = none_yet command a b before between stopped in
          inl (omega (arith, still, rose))
      counted (inr rose) (inl still) = inr (omega (arith, still, rose))
      counted (inr rose) (inr first) = inr (omega (arith, first, rose))

pub gave_up : (command : Option SizeNamed) (outcome : SizeOutcome) (a b : StoreSeen)
    (before between after : SinkSeen)
    → outcome.status ≡ statuses.Memory → outcome.report ≡ None
    → IsStopped command a b before between → IsLastLine between between after
    → between.faults ≤ after.faults → after.faults ≤ between.faults + 1
    → IsAnswer command outcome a b before after
gave_up command outcome a b before between after memory none cut line kept one = record {
  headline = subst (λ (r : Option SizeReport). IsWorth command a b r) (sym none) tt;
  told = λ other. absurd (other memory);
  gave_up = λ same.
      let still = none_yet command a b before between cut in
      record {
        report = none;
        told = between;
        stopped = cut;
        line = last_after command a b before between after cut line;
        kept = omega (arith, still, kept);
        one = omega (arith, still, one);
      };
  complete = λ files named held is sound sane. inr memory;
  faultless = λ read write other. absurd (other memory);
}
