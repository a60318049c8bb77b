-- Where no text can't be read no read failed, and each source that was opened is closed: for the
-- texts one after another, and for what is found.
use Rattle.std.proofs.Common.{◌≡◌, ℕ, ◌+◌, List, [], ◌∷◌, ◌++◌, Option, None, Some, inl, inr, refl, sym, ap, subst, arith}
use Rattle.bpf_filter.specs.declared.insn.Insn.{Insn}
use Rattle.reader_pace.specs.declared.reader_error.ReaderError.{ReaderError}
use Rattle.reader_pace.specs.declared.paces.MoreFile.{MoreFile}
use Rattle.reader_pace.specs.declared.readers.PacedReader.{PacedReader}
use Rattle.setup_text.specs.declared.cpu_setups.CpuSetup.{CpuSetup}
use Rattle.setup_text.specs.declared.jobs.Job.{Job}
use Rattle.setup_text.specs.declared.setup_error.SetupError.{SetupError}
use Rattle.setup_text.specs.declared.setups.Setup.{Setup}
use Rattle.setup_text.specs.declared.text_error.TextError.{TextError}
use Rattle.frame_deals.specs.Dealings.{Dealing, first_dealing}
use Rattle.size_printing.specs.declared.size_reports.ReadFile.{ReadFile}
use Rattle.tap_outside.proofs.Kept.{NoReadFailed-none, NoReadFailed-then}
use Rattle.tap_outside.proofs.Taken.{none_open, none_open_same, none_open_then}
use Rattle.tap_outside.specs.Counts.{RoseBy}
use Rattle.tap_outside.specs.Records.{NoneOpen}
use Rattle.tap_outside.specs.Seen.{Entry, StoreSeen}
use Rattle.tap_reading.specs.Fronts.{CantRead, RanOut, ReadTexts}
use Rattle.tap_running.specs.Captures.{fault_at}
use Rattle.tap_running.specs.Counts.{IsCounted}
use Rattle.tap_running.proofs.Counted.{counts_none, counts_then}
use Rattle.tap_sizes.specs.Readings.{AreAllRead, AreCpusRead, AreFilesTaken, file_faults, files_in, more_of}
use Rattle.tap_sizes.specs.SizeFindings.{IsSizeFound}
use Rattle.tap_sizes.specs.SizeTexts.{CantReadText, HasBadFilter, HasBadReader, HasBadSetup}
use Rattle.tap_sizes.specs.SizeTexts.{IsJobRead, IsProgramRead, IsSetupRead, IsSizeAsked}
use Rattle.tap_sizes.specs.SizeWords.{SizeNamed}
use Rattle.tap_sizes.specs.declared.size_findings.SizeFinding.{SizeFinding}
use Rattle.tap_sizes.specs.declared.size_findings.SizeFinding.TheVariants as finding

-- ---- no read failed, and none is open

pub clean_texts : (a b : StoreSeen) (texts : List Entry) → ReadTexts a b texts → RanOut a b
clean_texts a b texts read =
    record { unfailed = read.unfailed; closed = none_open a.sources b.sources texts read.took }

pub clean_same : (a b : StoreSeen) → b ≡ a → RanOut a b
clean_same a b same = subst (λ (s : StoreSeen). RanOut a s) (sym same) (record {
  unfailed = NoReadFailed-none a;
  closed = none_open_same a.sources a.sources refl;
})

pub clean_then : (a b c : StoreSeen) → RanOut a b → RanOut b c → RanOut a c
clean_then a b c first second = record {
  unfailed = NoReadFailed-then a b c first.unfailed second.unfailed;
  closed = none_open_then a.sources b.sources c.sources first.closed second.closed;
}

pub clean_program : (a b : StoreSeen) (name : Option (List ℕ)) (program : Option (List Insn))
    → IsProgramRead a b name program → RanOut a b
clean_program a b None None is = clean_same a b is
clean_program a b None (Some program) is = absurd is
clean_program a b (Some name) None is = absurd is
clean_program a b (Some name) (Some program) is = clean_texts a b _ is.texts

pub clean_setup : (a b : StoreSeen) (named : SizeNamed) (text : List ℕ) (setup : Setup)
    → IsSetupRead a b named text setup → RanOut a b
clean_setup a b named text setup is =
    clean_then a is.between b (clean_texts a is.between _ is.reader_is.texts)
    (clean_texts is.between b _ is.setup_is.texts)

pub clean_job : (a b : StoreSeen) (named : SizeNamed) (text : List ℕ) (job : Job)
    → IsJobRead a b named text job → RanOut a b
clean_job a b named text job is =
    clean_then a is.between b (clean_setup a is.between named text job.setup is.setup_is)
    (clean_program is.between b job.setup.filter job.program is.program_is)

pub clean_asked : (a b : StoreSeen) (named : SizeNamed) (job : Job) (reader : PacedReader)
    → IsSizeAsked a b named job reader → RanOut a b
clean_asked a b named job reader is = clean_job a b named is.text job is.job_is

pub clean_bad_setup : (a b : StoreSeen) (named : SizeNamed) (error : SetupError)
    → HasBadSetup a b named error → RanOut a b
clean_bad_setup a b named error is =
    clean_then a is.between b (clean_texts a is.between _ is.reader_is.texts)
    (clean_texts is.between b _ is.refused.texts)

pub clean_bad_filter : (a b : StoreSeen) (named : SizeNamed) (error : TextError)
    → HasBadFilter a b named error → RanOut a b
clean_bad_filter a b named error is =
    clean_then a is.between b (clean_setup a is.between named is.text is.setup is.setup_is)
    (clean_texts is.between b _ is.refused.texts)

pub clean_bad_reader : (a b : StoreSeen) (named : SizeNamed) (error : ReaderError)
    → HasBadReader a b named error → RanOut a b
clean_bad_reader a b named error is = clean_job a b named is.text is.job is.job_is

-- ---- a text that can't be read

unread_open : (a b : StoreSeen) (name : List ℕ) → CantRead a b name
    → NoneOpen a.sources b.sources
unread_open a b name unread = none_open a.sources b.sources _ unread.took

later_rose : (a b c : StoreSeen) (name : List ℕ) → RanOut a b → CantRead b c name
    → RoseBy 1 a.read_faults c.read_faults
later_rose a b c name clean unread =
    let later = clean.unfailed.only.later in let rose = unread.rose in omega (arith, later, rose)

later_closed : (a b c : StoreSeen) (name : List ℕ) → RanOut a b → CantRead b c name
    → NoneOpen a.sources c.sources
later_closed a b c name clean unread =
    none_open_then a.sources b.sources c.sources clean.closed (unread_open b c name unread)

pub unread_closed : (a b : StoreSeen) (named : SizeNamed) → CantReadText a b named
    → NoneOpen a.sources b.sources
unread_closed a b named (inl reader) = unread_open a b named.reader reader
unread_closed a b named (inr (inl setup)) =
    later_closed a setup.between b named.setup (clean_texts a setup.between _ setup.reader_is.texts)
    setup.unread
unread_closed a b named (inr (inr filter)) =
    later_closed a filter.between b filter.name
    (clean_setup a filter.between named filter.text filter.setup filter.setup_is) filter.unread

pub unread_rose : (a b : StoreSeen) (named : SizeNamed) → CantReadText a b named
    → RoseBy 1 a.read_faults b.read_faults
unread_rose a b named (inl reader) = reader.rose
unread_rose a b named (inr (inl setup)) =
    later_rose a setup.between b named.setup (clean_texts a setup.between _ setup.reader_is.texts)
    setup.unread
unread_rose a b named (inr (inr filter)) =
    later_rose a filter.between b filter.name
    (clean_setup a filter.between named filter.text filter.setup filter.setup_is) filter.unread

-- ---- the captures

files_closed : (a b : StoreSeen) (job : Job) (room cpu : ℕ) (names all : List (List ℕ))
    (files : List ReadFile) (before after : Dealing)
    → AreFilesTaken a b job room cpu names all files before after → NoneOpen a.sources b.sources
files_closed a b job room cpu [] [] [] before after are =
    none_open_same a.sources b.sources (ap (λ (s : StoreSeen). s.sources) are.0)
files_closed a b job room cpu [] [] (f ∷ files) before after are = absurd are
files_closed a b job room cpu [] (x ∷ all) files before after are = absurd are
files_closed a b job room cpu (n ∷ names) [] files before after are = absurd are
files_closed a b job room cpu (n ∷ names) (x ∷ all) [] before after are = absurd are
files_closed a b job room cpu (n ∷ names) (x ∷ all) (f ∷ files) before after are =
    none_open_then a.sources are.0.sources b.sources
    (none_open a.sources are.0.sources _ are.2.file_is.given)
    (files_closed are.0 b job room cpu names all files are.1 after are.3)

cpus_closed : (a b : StoreSeen) (job : Job) (room : ℕ) (more : List MoreFile) (cpu : ℕ) (setups : List CpuSetup)
    (all : List (List (List ℕ))) (lists : List (List ReadFile)) (deals : List Dealing)
    → AreCpusRead a b job room more cpu setups all lists deals → NoneOpen a.sources b.sources
cpus_closed a b job room more cpu [] [] [] [] are =
    none_open_same a.sources b.sources (ap (λ (s : StoreSeen). s.sources) are)
cpus_closed a b job room more cpu [] [] [] (d ∷ deals) are = absurd are
cpus_closed a b job room more cpu [] [] (f ∷ lists) deals are = absurd are
cpus_closed a b job room more cpu [] (x ∷ all) lists deals are = absurd are
cpus_closed a b job room more cpu (s ∷ setups) [] lists deals are = absurd are
cpus_closed a b job room more cpu (s ∷ setups) (x ∷ all) [] deals are = absurd are
cpus_closed a b job room more cpu (s ∷ setups) (x ∷ all) (f ∷ lists) [] are = absurd are
cpus_closed a b job room more cpu (s ∷ setups) (x ∷ all) (f ∷ lists) (d ∷ deals) are =
    none_open_then a.sources are.0.sources b.sources
    (files_closed a are.0 job room cpu (s.file ∷ more_of cpu more) x f (first_dealing cpu job.setup.plan) d are.1)
    (cpus_closed are.0 b job room more (cpu + 1) setups all lists deals are.2)

pub all_closed : (a b : StoreSeen) (job : Job) (room : ℕ) (more : List MoreFile) (all : List (List (List ℕ)))
    (files : List ReadFile) (deals : List Dealing) → AreAllRead a b job room more all files deals
    → NoneOpen a.sources b.sources
all_closed a b job room more all files deals are =
    cpus_closed a b job room more 0 job.setup.cpus all are.by_cpu deals are.read_is

pub faults_both : (files others : List ReadFile)
    → file_faults (files ++ others) ≡ file_faults files + file_faults others
faults_both [] others = omega arith
faults_both (file ∷ files) others = let rest = faults_both files others in omega (arith, rest)

files_counted : (a b : StoreSeen) (job : Job) (room cpu : ℕ) (names all : List (List ℕ))
    (files : List ReadFile) (before after : Dealing)
    → AreFilesTaken a b job room cpu names all files before after → IsCounted a b (file_faults files)
files_counted a b job room cpu [] [] [] before after are =
    subst (λ (s : StoreSeen). IsCounted a s 0) (sym are.0) (counts_none 0 a refl)
files_counted a b job room cpu [] [] (f ∷ files) before after are = absurd are
files_counted a b job room cpu [] (x ∷ all) files before after are = absurd are
files_counted a b job room cpu (n ∷ names) [] files before after are = absurd are
files_counted a b job room cpu (n ∷ names) (x ∷ all) [] before after are = absurd are
files_counted a b job room cpu (n ∷ names) (x ∷ all) (f ∷ files) before after are =
    counts_then (fault_at f.end) (file_faults files) a are.0 b are.2.file_is.counted
    (files_counted are.0 b job room cpu names all files are.1 after are.3)

cpus_counted : (a b : StoreSeen) (job : Job) (room : ℕ) (more : List MoreFile) (cpu : ℕ) (setups : List CpuSetup)
    (all : List (List (List ℕ))) (lists : List (List ReadFile)) (deals : List Dealing)
    → AreCpusRead a b job room more cpu setups all lists deals → IsCounted a b (file_faults (files_in lists))
cpus_counted a b job room more cpu [] [] [] [] are =
    subst (λ (s : StoreSeen). IsCounted a s 0) (sym are) (counts_none 0 a refl)
cpus_counted a b job room more cpu [] [] [] (d ∷ deals) are = absurd are
cpus_counted a b job room more cpu [] [] (f ∷ lists) deals are = absurd are
cpus_counted a b job room more cpu [] (x ∷ all) lists deals are = absurd are
cpus_counted a b job room more cpu (s ∷ setups) [] lists deals are = absurd are
cpus_counted a b job room more cpu (s ∷ setups) (x ∷ all) [] deals are = absurd are
cpus_counted a b job room more cpu (s ∷ setups) (x ∷ all) (f ∷ lists) [] are = absurd are
cpus_counted a b job room more cpu (s ∷ setups) (x ∷ all) (f ∷ lists) (d ∷ deals) are =
    subst (λ (n : ℕ). IsCounted a b n) (sym (faults_both f (files_in lists)))
    (counts_then (file_faults f) (file_faults (files_in lists)) a are.0 b
    (files_counted a are.0 job room cpu (s.file ∷ more_of cpu more) x f (first_dealing cpu job.setup.plan) d are.1)
    (cpus_counted are.0 b job room more (cpu + 1) setups all lists deals are.2))

pub all_counted : (a b : StoreSeen) (job : Job) (room : ℕ) (more : List MoreFile) (all : List (List (List ℕ)))
    (files : List ReadFile) (deals : List Dealing) → AreAllRead a b job room more all files deals
    → IsCounted a b (file_faults files)
all_counted a b job room more all files deals are =
    subst (λ (fs : List ReadFile). IsCounted a b (file_faults fs)) (sym are.files_are)
    (cpus_counted a b job room more 0 job.setup.cpus all are.by_cpu deals are.read_is)

-- ---- what is found

pub found_closed : (a b : StoreSeen) (command : Option SizeNamed) (found : SizeFinding)
    → IsSizeFound command a b found → NoneOpen a.sources b.sources
found_closed a b None finding.NoNames h = (clean_texts a b _ h).closed
found_closed a b None finding.Unread h = absurd h
found_closed a b None (finding.BadSetup error) h = absurd h
found_closed a b None (finding.BadFilter error) h = absurd h
found_closed a b None (finding.BadReader error) h = absurd h
found_closed a b None (finding.Unanswered why) h = absurd h
found_closed a b None (finding.TooLong files) h = absurd h
found_closed a b None (finding.Sized kind unit report) h = absurd h
found_closed a b (Some named) finding.NoNames h = absurd h
found_closed a b (Some named) finding.Unread h = unread_closed a b named h
found_closed a b (Some named) (finding.BadSetup error) h = (clean_bad_setup a b named error h).closed
found_closed a b (Some named) (finding.BadFilter error) h = (clean_bad_filter a b named error h).closed
found_closed a b (Some named) (finding.BadReader error) h =
    (clean_bad_reader a b named error h).closed
found_closed a b (Some named) (finding.Unanswered why) h =
    (clean_asked a b named h.job h.reader h.asked).closed
found_closed a b (Some named) (finding.TooLong files) h =
    let read = h.0.read_is in
    none_open_then a.sources read.between.sources b.sources
    (clean_asked a read.between named h.0.job h.0.reader read.asked).closed
    (all_closed read.between b h.0.job _ h.0.reader.more h.0.bytes files read.deals read.read_is)
found_closed a b (Some named) (finding.Sized kind unit report) h =
    let read = h.0.read_is in
    none_open_then a.sources read.between.sources b.sources
    (clean_asked a read.between named h.0.job h.0.reader read.asked).closed
    (all_closed read.between b h.0.job _ h.0.reader.more h.0.bytes report.files read.deals read.read_is)
