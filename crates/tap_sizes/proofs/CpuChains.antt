-- The files of a CPU that were read so far, and one more.
use Rattle.std.proofs.Common.{◌≡◌, ◌≢◌, ℕ, zero, suc, ◌+◌, ◌<◌, ◌≤◌, Bool, true, false, List, [], ◌∷◌, ◌++◌, get_or, length}
use Rattle.std.proofs.Common.{take, Option}
use Rattle.std.proofs.Common.{refl, sym, ap, ◌∙◌, subst, arith, append-nil, append_assoc, eq-eqb, ne_eqb}
use Rattle.std.specs.Prelude.{◌==◌, if◌then◌else◌}
use Rattle.std.proofs.lemmas.Option.{get_or_from_slice_get, slice_get_read}
use Rattle.capture_file.specs.Capture.{frames_of}
use Rattle.fanout_group.specs.Judgements.{AgreesAt, rules_by}
use Rattle.fanout_group.specs.Plans.{Shape}
use Rattle.fanout_group.specs.Rules.{Rules}
use Rattle.fanout_group.specs.RulesOfJudging.{judge_rules_of as judge_rules_of_rules}
use Rattle.fanout_group.specs.declared.judgements.ArrivalRules.{ArrivalRules}
use Rattle.frame_deals.specs.Dealings.{Dealing, after_frame, after_frames, first_dealing}
use Rattle.frame_deals.specs.FileReadings.{HasReadFile}
use Rattle.frame_deals.specs.declared.files.FileReading.{FileReading}
use Rattle.frame_view.specs.declared.frames.Frame.{Frame}
use Rattle.reader_pace.specs.declared.paces.MoreFile.{MoreFile}
use Rattle.run_reports.specs.Jobs.{judge_rules_of, rules_of}
use Rattle.setup_text.specs.declared.cpu_setups.CpuSetup.{CpuSetup}
use Rattle.setup_text.specs.declared.jobs.Job.{Job}
use Rattle.size_printing.specs.declared.size_reports.ReadFile.{ReadFile}
use Rattle.tap_outside.specs.Seen.{SourceSeen, StoreSeen}
use Rattle.tap_running.specs.Files.{IsClosed, IsFetched}
use Rattle.tap_running.proofs.FileReads.{file_read}
use Rattle.tap_running.proofs.Growing.{one_more}
use Rattle.tap_sizes.specs.Readings.{AreFilesTaken, IsCpuRead, IsFileTaken, more_of}

-- ---- one file

-- taking frames changes neither the number of a CPU nor the shape of its group
cpu_stays : (rules : Rules) (room : ℕ) (frames : List Frame) (deal : Dealing)
    → (after_frames rules room frames deal).cpu ≡ deal.cpu
cpu_stays rules room [] deal = refl
cpu_stays rules room (frame ∷ frames) deal =
    cpu_stays rules room frames (after_frame rules room frame deal)

shape_stays : (rules : Rules) (room : ℕ) (frames : List Frame) (deal : Dealing)
    → (after_frames rules room frames deal).shape ≡ deal.shape
shape_stays rules room [] deal = refl
shape_stays rules room (frame ∷ frames) deal =
    shape_stays rules room frames (after_frame rules room frame deal)

-- the frames that were taken, by the rules of the job
taken_by : (job : Job) (room cpu : ℕ) (before after : Option SourceSeen) (rules : ArrivalRules)
    (old new : Dealing) (reading : FileReading)
    → (read : HasReadFile rules before after old new reading) → old.cpu ≡ cpu → old.shape ≡ job.setup.plan
    → AgreesAt cpu (judge_rules_of job) (judge_rules_of_rules rules)
    → rules.room ≡ room
    → new ≡ after_frames (rules_of job) room (frames_of cpu read.bytes) old
taken_by job room cpu before after rules old new reading read number shape agrees same =
    read.took (judge_rules_of job)
    (subst (λ (n : ℕ). AgreesAt n (judge_rules_of job) (judge_rules_of_rules rules)) (sym number) agrees)
    ∙ ap (λ (s : Shape). after_frames (rules_by s (judge_rules_of job)) rules.room
    (frames_of old.cpu read.bytes) old) shape
    ∙ ap (λ (r : ℕ). after_frames (rules_of job) r (frames_of old.cpu read.bytes) old) same
    ∙ ap (λ (n : ℕ). after_frames (rules_of job) room (frames_of n read.bytes) old)
    number

pub file_taken : (a b c : StoreSeen) (job : Job) (room cpu : ℕ) (name : List ℕ)
    (before after : Option SourceSeen) (rules : ArrivalRules) (old new : Dealing)
    (reading : FileReading)
    → old.cpu ≡ cpu → old.shape ≡ job.setup.plan → IsFetched a b name before
    → HasReadFile rules before after old new reading
    → IsClosed b c after → AgreesAt cpu (judge_rules_of job) (judge_rules_of_rules rules)
    → rules.room ≡ room
    → (bytes : List ℕ) × IsFileTaken a c job room cpu name bytes
    (record { cpu = cpu; frames = reading.frames; arrivals = reading.arrivals; end = reading.end })
    old new
file_taken a b c job room cpu name before after rules old new reading number shape fetched read closed
    agrees same = (
      read.bytes,
      record {
        file_is = file_read a b c name read.bytes before after reading.end fetched read.gave closed;
        cpu_is = refl;
        frames = read.frames ∙ ap (λ (n : ℕ). length (frames_of n read.bytes)) number;
        arrivals = read.arrivals;
        taken = taken_by job room cpu before after rules old new reading read number shape agrees same;
      },
    )

pub taken_same : (a b : StoreSeen) (job : Job) (room cpu : ℕ) (name bytes : List ℕ) (file : ReadFile)
    (old new : Dealing) → IsFileTaken a b job room cpu name bytes file old new
    → old.cpu ≡ cpu → old.shape ≡ job.setup.plan
    → (new.cpu ≡ cpu) × (new.shape ≡ job.setup.plan)
taken_same a b job room cpu name bytes file old new is number shape =
    let rules = rules_of job in
    let frames = frames_of cpu bytes in (
      ap (λ (d : Dealing). d.cpu) is.taken ∙ cpu_stays rules room frames old ∙ number,
      ap (λ (d : Dealing). d.shape) is.taken ∙ shape_stays rules room frames old ∙ shape,
    )

-- with the CPU's number, which its deal has
pub file_as : (a b : StoreSeen) (job : Job) (room cpu other : ℕ) (name : List ℕ) (file : ReadFile)
    (old new : Dealing) → other ≡ cpu
    → ((bytes : List ℕ) × IsFileTaken a b job room other name bytes file old new)
    → (bytes : List ℕ) × IsFileTaken a b job room cpu name bytes file old new
file_as a b job room cpu other name file old new same one =
    subst (λ (n : ℕ). (bytes : List ℕ) × IsFileTaken a b job room n name bytes file old new) same one

-- ---- one more file of a CPU

files_then : (a b c : StoreSeen) (job : Job) (room cpu : ℕ) (names all : List (List ℕ))
    (files : List ReadFile) (before mid after : Dealing) (name bytes : List ℕ) (file : ReadFile)
    → AreFilesTaken a b job room cpu names all files before mid
    → IsFileTaken b c job room cpu name bytes file mid after
    → AreFilesTaken a c job room cpu (names ++ name ∷ []) (all ++ bytes ∷ []) (files ++ file ∷ []) before after
files_then a b c job room cpu [] [] [] before mid after name bytes file are is = (
  c,
  after,
  subst (λ (s : StoreSeen). IsFileTaken s c job room cpu name bytes file before after) are.0
      (subst (λ (d : Dealing). IsFileTaken b c job room cpu name bytes file d after) are.1 is),
  (refl, refl),
)
files_then a b c job room cpu [] [] (f ∷ files) before mid after name bytes file are is = absurd are
files_then a b c job room cpu [] (x ∷ all) files before mid after name bytes file are is = absurd are
files_then a b c job room cpu (n ∷ names) [] files before mid after name bytes file are is = absurd are
files_then a b c job room cpu (n ∷ names) (x ∷ all) [] before mid after name bytes file are is = absurd are
files_then a b c job room cpu (n ∷ names) (x ∷ all) (f ∷ files) before mid after name bytes file are is = (
  are.0,
  are.1,
  are.2,
  files_then are.0 b c job room cpu names all files are.1 mid after name bytes file are.3 is,
)

-- the further files of a CPU among some, and one more
more_then : (cpu : ℕ) (more : List MoreFile) (file : MoreFile)
    → more_of cpu (more ++ file ∷ []) ≡ more_of cpu more ++ more_of cpu (file ∷ [])
more_then cpu [] file = refl
more_then cpu (other ∷ more) file = by (other.cpu == cpu) (more_then cpu more file) where
  by : (b : Bool) → more_of cpu (more ++ file ∷ []) ≡ more_of cpu more ++ more_of cpu (file ∷ [])
      → (if b then other.file ∷ more_of cpu (more ++ file ∷ []) else more_of cpu (more ++ file ∷ []))
      ≡ (if b then other.file ∷ more_of cpu more else more_of cpu more) ++ more_of cpu (file ∷ [])
  by true rest = ap (λ (names : List (List ℕ)). other.file ∷ names) rest
  by false rest = rest

its_own : (name : List ℕ) (b : Bool) → b ≡ true → (if b then name ∷ [] else []) ≡ name ∷ []
its_own name true is = refl
its_own name false is = cc

not_its_own : (name : List ℕ) (b : Bool) → b ≡ false → (if b then name ∷ [] else []) ≡ []
not_its_own name true is = cc
not_its_own name false is = refl

-- what was read of a CPU so far: of the further files those that are among the first of all
pub record AreFurtherRead (old new : StoreSeen) (job : Job) (room cpu : ℕ) (more : List MoreFile)
    (start files : List ReadFile) (before after : Dealing) : Type 0 where
  pub all : List (List ℕ)
  pub read : List ReadFile
  pub files_are : files ≡ start ++ read
  pub taken : AreFilesTaken old new job room cpu (more_of cpu more) all read before after

pub none_further : (a : StoreSeen) (job : Job) (room cpu : ℕ) (start : List ReadFile) (deal : Dealing)
    → AreFurtherRead a a job room cpu [] start start deal deal
none_further a job room cpu start deal = record {
  all = [];
  read = [];
  files_are = sym (append-nil start);
  taken = (refl, refl);
}

-- a further file of the CPU
pub one_further : (a b c : StoreSeen) (job : Job) (room cpu : ℕ) (more : List MoreFile) (at : ℕ)
    (item : MoreFile) (name : List ℕ) (start files others : List ReadFile) (before mid after : Dealing)
    (file : ReadFile)
    → item ≡ get_or more at item → at < length more → item.cpu ≡ cpu → name ≡ item.file
    → others ≡ files ++ file ∷ []
    → AreFurtherRead a b job room cpu (take at more) start files before mid
    → ((bytes : List ℕ) × IsFileTaken b c job room cpu name bytes file mid after)
    → AreFurtherRead a c job room cpu (take (at + 1) more) start others before after
one_further a b c job room cpu more at item name start files others before mid after file here less own
    named added are one = record {
      all = are.all ++ one.0 ∷ [];
      read = are.read ++ file ∷ [];
      files_are = added ∙ ap (λ (fs : List ReadFile). fs ++ file ∷ []) are.files_are
          ∙ append_assoc start are.read (file ∷ []);
      taken = subst (λ (names : List (List ℕ)). AreFilesTaken a c job room cpu names (are.all ++ one.0 ∷ [])
          (are.read ++ file ∷ []) before after)
          (sym (ap (more_of cpu) (one_more more at item here less) ∙ more_then cpu (take at more) item
          ∙ ap (λ (names : List (List ℕ)). more_of cpu (take at more) ++ names)
          (its_own item.file (item.cpu == cpu) (eq-eqb item.cpu cpu own))))
          (files_then a b c job room cpu (more_of cpu (take at more)) are.all are.read before mid after
          item.file one.0 file are.taken
          (subst (λ (n : List ℕ). IsFileTaken b c job room cpu n one.0 file mid after) named one.1));
    }

-- a file of another CPU
pub other_further : (a b : StoreSeen) (job : Job) (room cpu : ℕ) (more : List MoreFile) (at : ℕ)
    (item : MoreFile) (start files : List ReadFile) (before after : Dealing)
    → item ≡ get_or more at item → at < length more → item.cpu ≢ cpu
    → AreFurtherRead a b job room cpu (take at more) start files before after
    → AreFurtherRead a b job room cpu (take (at + 1) more) start files before after
other_further a b job room cpu more at item start files before after here less own are = record {
  all = are.all;
  read = are.read;
  files_are = are.files_are;
  taken = subst (λ (names : List (List ℕ)). AreFilesTaken a b job room cpu names are.all are.read before after)
      (sym (ap (more_of cpu) (one_more more at item here less) ∙ more_then cpu (take at more) item
      ∙ ap (λ (names : List (List ℕ)). more_of cpu (take at more) ++ names)
      (not_its_own item.file (item.cpu == cpu) (ne_eqb item.cpu cpu own)) ∙ append-nil (more_of cpu (take at more))))
      are.taken;
}

-- ---- a CPU

take_all : {A : Type 0} (xs : List A) (count : ℕ) → length xs ≤ count → take count xs ≡ xs
take_all [] zero less = refl
take_all [] (suc count) less = refl
take_all (x ∷ xs) zero less = absurd (omega (arith, less))
take_all (x ∷ xs) (suc count) less = ap (λ ys. x ∷ ys) (take_all xs count (omega (arith, less)))

-- the setup of a CPU, by either name
same_setup : (cpus : List CpuSetup) (cpu : ℕ) (setup item : CpuSetup)
    → setup ≡ get_or cpus cpu setup → item ≡ get_or cpus cpu item → cpu < length cpus
    → setup ≡ item
same_setup cpus cpu setup item is other less =
    is ∙ get_or_from_slice_get cpus cpu item setup
    (slice_get_read cpus (length cpus) cpu item refl less other)

-- its capture and its further files
pub cpu_read : (a b c : StoreSeen) (job : Job) (room : ℕ) (more : List MoreFile) (cpu : ℕ)
    (setup item : CpuSetup) (name : List ℕ) (start first files : List ReadFile)
    (new before after : Dealing) (file : ReadFile) (count : ℕ)
    → setup ≡ get_or job.setup.cpus cpu setup → item ≡ get_or job.setup.cpus cpu item
    → cpu < length job.setup.cpus → name ≡ item.file → new ≡ first_dealing cpu job.setup.plan
    → first ≡ start ++ file ∷ []
    → ((bytes : List ℕ) × IsFileTaken a b job room cpu name bytes file new before)
    → length more ≤ count → AreFurtherRead b c job room cpu (take count more) first files before after
    → (all : List (List ℕ)) × (read : List ReadFile) × (files ≡ start ++ read)
    × IsCpuRead a c job room more cpu setup.file all read after
cpu_read a b c job room more cpu setup item name start first files new before after file count is other less
    named none added one least rest =
    let same = same_setup job.setup.cpus cpu setup item is other less in (
      one.0 ∷ rest.all,
      file ∷ rest.read,
      rest.files_are ∙ ap (λ (fs : List ReadFile). fs ++ rest.read) added
          ∙ append_assoc start (file ∷ []) rest.read,
      (
        b,
        before,
        subst (λ (n : List ℕ). IsFileTaken a b job room cpu n one.0 file (first_dealing cpu job.setup.plan) before)
            (named ∙ ap (λ (s : CpuSetup). s.file) (sym same))
            (subst (λ (d : Dealing). IsFileTaken a b job room cpu name one.0 file d before) none one.1),
        subst (λ (some : List MoreFile). AreFilesTaken b c job room cpu (more_of cpu some) rest.all rest.read before after)
            (take_all more count least) rest.taken,
      ),
    )

-- for rings with a room that is the same, and further files that are
pub cpu_read_as : (a b : StoreSeen) (job : Job) (room other : ℕ) (more others : List MoreFile) (cpu : ℕ)
    (name : List ℕ) (start files : List ReadFile) (deal : Dealing) → room ≡ other → more ≡ others
    → ((all : List (List ℕ)) × (read : List ReadFile) × (files ≡ start ++ read)
    × IsCpuRead a b job room more cpu name all read deal)
    → (all : List (List ℕ)) × (read : List ReadFile) × (files ≡ start ++ read)
    × IsCpuRead a b job other others cpu name all read deal
cpu_read_as a b job room other more others cpu name start files deal same is read = (
  read.0,
  read.1,
  read.2,
  subst (λ (r : ℕ). IsCpuRead a b job r others cpu name read.0 read.1 deal) same
      (subst (λ (m : List MoreFile). IsCpuRead a b job room m cpu name read.0 read.1 deal) is read.3),
)
