-- If the texts and the captures are sound and nothing fails, the status is fine.
use Rattle.std.proofs.Common.{◌≡◌, ℕ, ◌+◌, Bool, true, false, List, [], ◌∷◌, ◌++◌, map, Option, None, Some}
use Rattle.std.proofs.Common.{inl, refl, sym, ap, ◌∙◌, subst, arith}
use Rattle.std.specs.List.{AllByRecursion}
use Rattle.capture_file.specs.declared.cpu_end.CpuEnd.{CpuEnd}
use Rattle.capture_file.specs.declared.cpu_end.CpuEnd.TheVariants.{Damaged, Fault, Whole}
use Rattle.deal_rules.specs.Files.{times_by}
use Rattle.frame_deals.specs.Dealings.{Dealing, first_dealing}
use Rattle.reader_pace.specs.Timelines.{end_of}
use Rattle.reader_pace.specs.declared.paces.MoreFile.{MoreFile}
use Rattle.reader_pace.specs.declared.readers.PacedReader.{PacedReader}
use Rattle.setup_text.specs.declared.cpu_setups.CpuSetup.{CpuSetup}
use Rattle.setup_text.specs.declared.jobs.Job.{Job}
use Rattle.setup_text.specs.declared.setups.Setup.{Setup}
use Rattle.size_printing.specs.declared.size_reports.ReadFile.{ReadFile}
use Rattle.tap_outside.proofs.Kept.{held_kept}
use Rattle.tap_outside.specs.Contents.{Contents}
use Rattle.tap_outside.specs.Counts.{RoseBy}
use Rattle.tap_outside.specs.Seen.{SinkSeen, StoreSeen}
use Rattle.tap_running.specs.Captures.{IsCapture}
use Rattle.tap_running.specs.Prints.{IsPrinted}
use Rattle.tap_running.specs.Texts.{text_in}
use Rattle.tap_running.proofs.Stores.{none_rose}
use Rattle.tap_running.proofs.Wholes.{none_faults, whole_end}
use Rattle.tap_sizes.specs.Answers.{AreCapturesRead}
use Rattle.tap_sizes.specs.Complete.{IsComplete, IsSoundSize, IsWholeFile, files_held}
use Rattle.tap_sizes.specs.Endings.{Tells, status_with}
use Rattle.tap_sizes.specs.Readings.{AreCpusRead, AreFilesTaken, file_faults, files_in, more_of}
use Rattle.tap_sizes.specs.SizeFindings.{IsSizeFound, status_by_end, status_of, status_of_files}
use Rattle.tap_sizes.specs.SizeTexts.{IsSizeAsked}
use Rattle.tap_sizes.specs.SizeWords.{SizeNamed}
use Rattle.tap_sizes.specs.Tried.{unanswered_by}
use Rattle.tap_sizes.specs.declared.outcomes.SizeOutcome.{SizeOutcome}
use Rattle.tap_sizes.specs.declared.outcomes.SizeStatus.{SizeStatus}
use Rattle.tap_sizes.specs.declared.outcomes.SizeStatus.TheVariants as statuses
use Rattle.tap_sizes.specs.declared.size_findings.SizeFinding.{SizeFinding}
use Rattle.tap_sizes.specs.declared.size_findings.SizeFinding.TheVariants as finding
use Rattle.tap_sizes.proofs.Clean.{clean_asked, faults_both, unread_rose}
use Rattle.tap_sizes.proofs.HeldTexts.{asked_reader, asked_setup, bad_filter, bad_reader, bad_setup}

some_none : {A : Type 0} (o : Option A) (x : A) → o ≡ None → o ≡ Some x → ⊥
some_none None x e f = cc
some_none (Some y) x e f = cc

answered_still : (files : Contents) (named : SizeNamed) (sound : IsSoundSize files named)
    (a b : StoreSeen) (job : Job) (reader : PacedReader) → a.held ≡ Some files
    → IsSizeAsked a b named job reader → unanswered_by reader ≡ None
answered_still files named sound a b job reader held asked =
    subst (λ (r : PacedReader). unanswered_by r ≡ None)
    (asked_reader files named sound a b job reader held asked) sound.answered

-- ---- captures that are whole end whole, and give all that the store holds

whole_bytes : (files : Contents) (name bytes : List ℕ) (end : CpuEnd) → end ≡ Whole
    → IsCapture (Some files) name bytes end → bytes ≡ text_in files name
whole_bytes files name bytes Whole is capture = capture.all
whole_bytes files name bytes Fault is capture = cc
whole_bytes files name bytes (Damaged damage) is capture = cc

record AreWholeFiles (files : Contents) (names all : List (List ℕ)) (read : List ReadFile)
    : Type 0 where
  bytes : all ≡ map (text_in files) names
  status : (last : SizeStatus) → status_of_files read last ≡ last

record AreWholeReads (files : Contents) (more : List MoreFile) (cpu : ℕ) (setups : List CpuSetup)
    (all : List (List (List ℕ))) (read : List ReadFile) : Type 0 where
  bytes : all ≡ files_held files more cpu setups
  status : (last : SizeStatus) → status_of_files read last ≡ last

ended_whole : (file : ReadFile) (rest : SizeStatus) → file.end ≡ Whole
    → status_by_end file.cpu file.end rest ≡ rest
ended_whole file rest is = ap (λ e. status_by_end file.cpu e rest) is

two : {A : Type 0} (x y : A) (xs ys : List A) → x ≡ y → xs ≡ ys → x ∷ xs ≡ y ∷ ys
two x y xs ys first rest = ap (λ z. z ∷ xs) first ∙ ap (λ zs. y ∷ zs) rest

-- a store that was only read holds the same
files_keep : (a b : StoreSeen) (job : Job) (room cpu : ℕ) (names all : List (List ℕ)) (read : List ReadFile)
    (before after : Dealing) → AreFilesTaken a b job room cpu names all read before after → b.held ≡ a.held
files_keep a b job room cpu [] [] [] before after are = ap (λ (s : StoreSeen). s.held) are.0
files_keep a b job room cpu [] [] (f ∷ read) before after are = absurd are
files_keep a b job room cpu [] (x ∷ all) read before after are = absurd are
files_keep a b job room cpu (n ∷ names) [] read before after are = absurd are
files_keep a b job room cpu (n ∷ names) (x ∷ all) [] before after are = absurd are
files_keep a b job room cpu (n ∷ names) (x ∷ all) (f ∷ read) before after are =
    files_keep are.0 b job room cpu names all read are.1 after are.3
    ∙ held_kept are.2.file_is.only

whole_files : (files : Contents) (a b : StoreSeen) (job : Job) (room cpu : ℕ) (names all : List (List ℕ))
    (read : List ReadFile) (before after : Dealing)
    → a.held ≡ Some files → AreFilesTaken a b job room cpu names all read before after
    → AllByRecursion IsWholeFile (map (text_in files) names)
    → file_faults read ≡ 0 → AreWholeFiles files names all read
whole_files files a b job room cpu [] [] [] before after held are whole none =
    record { bytes = refl; status = λ last. refl }
whole_files files a b job room cpu [] [] (f ∷ read) before after held are whole none = absurd are
whole_files files a b job room cpu [] (x ∷ all) read before after held are whole none = absurd are
whole_files files a b job room cpu (n ∷ names) [] read before after held are whole none = absurd are
whole_files files a b job room cpu (n ∷ names) (x ∷ all) [] before after held are whole none = absurd are
whole_files files a b job room cpu (n ∷ names) (x ∷ all) (f ∷ read) before after held are whole none =
    let one = are.2.file_is in
    let capture : IsCapture (Some files) n x f.end =
    subst (λ (o : Option Contents). IsCapture o n x f.end) held one.capture in
    let end : f.end ≡ Whole =
    whole_end (text_in files n) x capture.front.rest f.end capture.front.parts whole.0
    capture.damage capture.all (none_faults f.end (omega (arith, none))) in
    let rest = whole_files files are.0 b job room cpu names all read are.1 after
    (held_kept one.only ∙ held) are.3 whole.1 (omega (arith, none)) in
    record {
      bytes = two x (text_in files n) all (map (text_in files) names)
          (whole_bytes files n x f.end end capture) rest.bytes;
      status = λ last. ended_whole f (status_of_files read last) end ∙ rest.status last;
    }

status_both : (read others : List ReadFile) (last : SizeStatus)
    → status_of_files (read ++ others) last ≡ status_of_files read (status_of_files others last)
status_both [] others last = refl
status_both (file ∷ read) others last =
    ap (λ (s : SizeStatus). status_by_end file.cpu file.end s) (status_both read others last)

whole_reads : (files : Contents) (a b : StoreSeen) (job : Job) (room : ℕ) (more : List MoreFile) (cpu : ℕ)
    (setups : List CpuSetup) (all : List (List (List ℕ))) (read : List (List ReadFile))
    (deals : List Dealing)
    → a.held ≡ Some files → AreCpusRead a b job room more cpu setups all read deals
    → AllByRecursion (AllByRecursion IsWholeFile) (files_held files more cpu setups)
    → file_faults (files_in read) ≡ 0 → AreWholeReads files more cpu setups all (files_in read)
whole_reads files a b job room more cpu [] [] [] [] held are whole none =
    record { bytes = refl; status = λ last. refl }
whole_reads files a b job room more cpu [] [] [] (d ∷ deals) held are whole none = absurd are
whole_reads files a b job room more cpu [] [] (f ∷ read) deals held are whole none = absurd are
whole_reads files a b job room more cpu [] (x ∷ all) read deals held are whole none = absurd are
whole_reads files a b job room more cpu (s ∷ setups) [] read deals held are whole none = absurd are
whole_reads files a b job room more cpu (s ∷ setups) (x ∷ all) [] deals held are whole none = absurd are
whole_reads files a b job room more cpu (s ∷ setups) (x ∷ all) (f ∷ read) [] held are whole none = absurd are
whole_reads files a b job room more cpu (s ∷ setups) (x ∷ all) (f ∷ read) (d ∷ deals) held are whole none =
    let sum = faults_both f (files_in read) in
    let all_none : file_faults (f ++ files_in read) ≡ 0 = none in
    let names = s.file ∷ more_of cpu more in
    let here = whole_files files a are.0 job room cpu names x f (first_dealing cpu job.setup.plan) d held
    are.1 whole.0 (omega (arith, all_none, sum)) in
    let rest = whole_reads files are.0 b job room more (cpu + 1) setups all read deals
    (files_keep a are.0 job room cpu names x f (first_dealing cpu job.setup.plan) d are.1 ∙ held) are.2
    whole.1 (omega (arith, all_none, sum)) in
    record {
      bytes = two x (map (text_in files) names) all (files_held files more (cpu + 1) setups)
          here.bytes rest.bytes;
      status = λ last. status_both f (files_in read) last ∙ here.status (status_of_files (files_in read) last)
          ∙ rest.status last;
    }

captures_whole : (files : Contents) (named : SizeNamed) (sound : IsSoundSize files named)
    (a b : StoreSeen) (job : Job) (reader : PacedReader) (bytes : List (List (List ℕ))) (read : List ReadFile)
    → a.held ≡ Some files → AreCapturesRead a b named job reader bytes read → file_faults read ≡ 0
    → AreWholeReads files reader.more 0 job.setup.cpus bytes read
captures_whole files named sound a b job reader bytes read held are none =
    let asked = clean_asked a are.between named job reader are.asked in
    let all = are.read_is in
    let setup = asked_setup files named sound a are.between job reader held are.asked in
    let same = asked_reader files named sound a are.between job reader held are.asked in
    let short = ap file_faults all.files_are in
    subst (λ (fs : List ReadFile). AreWholeReads files reader.more 0 job.setup.cpus bytes fs)
    (sym all.files_are)
    (whole_reads files are.between b job _ reader.more 0 job.setup.cpus bytes all.by_cpu are.deals
    (held_kept asked.unfailed.only ∙ held) all.read_is
    (subst (λ (s : Setup). AllByRecursion (AllByRecursion IsWholeFile)
    (files_held files reader.more 0 s.cpus)) setup
    (subst (λ (r : PacedReader). AllByRecursion (AllByRecursion IsWholeFile)
    (files_held files r.more 0 sound.setup.cpus)) same sound.captures))
    (sym short ∙ none))

-- ---- what is found

fine_found : (files : Contents) (named : SizeNamed) (a b : StoreSeen) (found : SizeFinding)
    → a.held ≡ Some files → IsSoundSize files named
    → (RoseBy 1 a.read_faults b.read_faults → ⊥) → IsSizeFound (Some named) a b found
    → status_of found ≡ statuses.Fine
fine_found files named a b finding.NoNames held sound sane h = absurd h
fine_found files named a b finding.Unread held sound sane h =
    absurd (sane (unread_rose a b named h))
fine_found files named a b (finding.BadSetup error) held sound sane h =
    absurd (bad_setup files named a b error held sound h)
fine_found files named a b (finding.BadFilter error) held sound sane h =
    absurd (bad_filter files named a b error held sound h)
fine_found files named a b (finding.BadReader error) held sound sane h =
    absurd (bad_reader files named a b error held sound h)
fine_found files named a b (finding.Unanswered why) held sound sane h =
    absurd (some_none (unanswered_by h.reader) why
    (answered_still files named sound a b h.job h.reader held h.asked) h.why_is)
fine_found files named a b (finding.TooLong read) held sound sane h =
    let long = h.0 in
    let none = none_rose (file_faults read) a.read_faults b.read_faults sane h.1.rose in
    let whole = captures_whole files named sound a b long.job long.reader long.bytes read held
    long.read_is none in
    let setup = asked_setup files named sound a long.read_is.between long.job long.reader held
    long.read_is.asked in
    let reader = asked_reader files named sound a long.read_is.between long.job long.reader held
    long.read_is.asked in
    let same : end_of (times_by long.bytes)
    ≡ end_of (times_by (files_held files sound.reader.more 0 sound.setup.cpus)) =
    ap (λ (all : List (List (List ℕ))). end_of (times_by all)) (whole.bytes
    ∙ ap (λ (s : Setup). files_held files long.reader.more 0 s.cpus) (sym setup)
    ∙ ap (λ (r : PacedReader). files_held files r.more 0 sound.setup.cpus) (sym reader)) in
    let more = long.long in let short = sound.short in
    absurd (omega (arith, same, more, short))
fine_found files named a b (finding.Sized kind unit report) held sound sane h =
    let none = none_rose (file_faults report.files) a.read_faults b.read_faults sane h.1.rose in
    (captures_whole files named sound a b h.0.job h.0.reader h.0.bytes report.files held h.0.read_is
    none).status statuses.Fine

printed_fine : (printed : Bool) (found : SizeFinding) (before after : SinkSeen) (lines : List ℕ)
    → IsPrinted before after lines printed → (RoseBy 1 before.faults after.faults → ⊥)
    → status_of found ≡ statuses.Fine → status_with printed (status_of found) ≡ statuses.Fine
printed_fine true found before after lines is sane fine = fine
printed_fine false found before after lines is sane fine = absurd (sane is.0)

pub complete_of : (command : Option SizeNamed) (outcome : SizeOutcome) (a b : StoreSeen)
    (before after : SinkSeen) → Tells command outcome a b before after
    → IsComplete command a b before after outcome.status
complete_of command outcome a b before after t = λ files named held is sound sane. inl
    (t.concluded.status_is
    ∙ printed_fine t.concluded.printed t.finding before after _ t.concluded.lines sane.prints
    (fine_found files named a b t.finding held sound sane.reads
    (subst (λ (c : Option SizeNamed). IsSizeFound c a b t.finding) is t.found)))
