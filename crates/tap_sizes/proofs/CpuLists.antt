-- The CPUs that were read so far, and one more.
use Rattle.std.proofs.Common.{◌≡◌, ℕ, ◌+◌, ◌<◌, List, [], ◌∷◌, ◌++◌, get_or, length, take}
use Rattle.std.proofs.Common.{zero, suc, refl, sym, ap, ◌∙◌, subst, arith, append-nil, append_assoc, length-take-le}
use Rattle.frame_deals.specs.Dealings.{Dealing}
use Rattle.reader_pace.specs.declared.paces.MoreFile.{MoreFile}
use Rattle.setup_text.specs.declared.cpu_setups.CpuSetup.{CpuSetup}
use Rattle.setup_text.specs.declared.jobs.Job.{Job}
use Rattle.size_printing.specs.declared.size_reports.ReadFile.{ReadFile}
use Rattle.tap_outside.specs.Seen.{StoreSeen}
use Rattle.tap_running.proofs.Growing.{one_more}
use Rattle.tap_sizes.specs.Readings.{AreCpusRead, IsCpuRead, files_in}

-- as the CPU with a number that is the same
cpu_as : (a b : StoreSeen) (job : Job) (room : ℕ) (more : List MoreFile) (cpu other : ℕ) (name : List ℕ)
    (bytes : List (List ℕ)) (files : List ReadFile) (deal : Dealing) → cpu ≡ other
    → IsCpuRead a b job room more cpu name bytes files deal
    → IsCpuRead a b job room more other name bytes files deal
cpu_as a b job room more cpu other name bytes files deal same read =
    subst (λ (n : ℕ). IsCpuRead a b job room more n name bytes files deal) same read

cpus_then : (old mid new : StoreSeen) (job : Job) (room : ℕ) (more : List MoreFile) (cpu : ℕ)
    (setups : List CpuSetup) (all : List (List (List ℕ))) (lists : List (List ReadFile))
    (deals : List Dealing) (setup : CpuSetup) (bytes : List (List ℕ)) (files : List ReadFile)
    (deal : Dealing)
    → AreCpusRead old mid job room more cpu setups all lists deals
    → IsCpuRead mid new job room more (cpu + length setups) setup.file bytes files deal
    → AreCpusRead old new job room more cpu (setups ++ setup ∷ []) (all ++ bytes ∷ []) (lists ++ files ∷ [])
    (deals ++ deal ∷ [])
cpus_then old mid new job room more cpu [] [] [] [] setup bytes files deal are is = (
  new,
  subst (λ (s : StoreSeen). IsCpuRead s new job room more cpu setup.file bytes files deal) are
      (cpu_as mid new job room more (cpu + 0) cpu setup.file bytes files deal (omega arith) is),
  refl,
)
cpus_then old mid new job room more cpu [] [] [] (d ∷ deals) setup bytes files deal are is = absurd are
cpus_then old mid new job room more cpu [] [] (f ∷ lists) deals setup bytes files deal are is = absurd are
cpus_then old mid new job room more cpu [] (b ∷ all) lists deals setup bytes files deal are is = absurd are
cpus_then old mid new job room more cpu (s ∷ setups) [] lists deals setup bytes files deal are is = absurd are
cpus_then old mid new job room more cpu (s ∷ setups) (b ∷ all) [] deals setup bytes files deal are is =
    absurd are
cpus_then old mid new job room more cpu (s ∷ setups) (b ∷ all) (f ∷ lists) [] setup bytes files deal are is =
    absurd are
cpus_then old mid new job room more cpu (s ∷ setups) (b ∷ all) (f ∷ lists) (d ∷ deals) setup bytes files deal
    are is = (
      are.0,
      are.1,
      cpus_then are.0 mid new job room more (cpu + 1) setups all lists deals setup bytes files deal are.2
          (cpu_as mid new job room more (cpu + length (s ∷ setups)) (cpu + 1 + length setups) setup.file bytes
          files deal (omega arith) is),
    )

-- the files of one more
files_more : (lists : List (List ReadFile)) (files : List ReadFile)
    → files_in (lists ++ files ∷ []) ≡ files_in lists ++ files
files_more [] files = append-nil files
files_more (first ∷ lists) files =
    ap (λ (rest : List ReadFile). first ++ rest) (files_more lists files)
    ∙ sym (append_assoc first (files_in lists) files)

-- the one at a place
element_at : {A : Type 0} (xs : List A) (at : ℕ) → at < length xs → (x : A) × (x ≡ get_or xs at x)
element_at [] at less = absurd (omega (arith, less))
element_at (x ∷ xs) zero less = (x, refl)
element_at (x ∷ xs) (suc at) less = element_at xs at (omega (arith, less))

-- the first CPUs of a job were read
pub record AreFirstRead (old new : StoreSeen) (job : Job) (room : ℕ) (more : List MoreFile) (count : ℕ)
    (files : List ReadFile) (deals : List Dealing) : Type 0 where
  pub all : List (List (List ℕ))
  pub by_cpu : List (List ReadFile)
  pub files_are : files ≡ files_in by_cpu
  pub read_is : AreCpusRead old new job room more 0 (take count job.setup.cpus) all by_cpu deals

pub none_read : (a : StoreSeen) (job : Job) (room : ℕ) (more : List MoreFile) → AreFirstRead a a job room more 0 [] []
none_read a job room more = record { all = []; by_cpu = []; files_are = refl; read_is = refl }

-- one more, of those that the setup has
pub one_cpu_more : (old mid new : StoreSeen) (job : Job) (room : ℕ) (more : List MoreFile) (at : ℕ)
    (files others : List ReadFile) (deals others_deals : List Dealing) (deal : Dealing)
    → at < length job.setup.cpus → others_deals ≡ deals ++ deal ∷ []
    → AreFirstRead old mid job room more at files deals
    → ((setup : CpuSetup) → setup ≡ get_or job.setup.cpus at setup
    → (all : List (List ℕ)) × (read : List ReadFile) × (others ≡ files ++ read)
    × IsCpuRead mid new job room more at setup.file all read deal)
    → AreFirstRead old new job room more (at + 1) others others_deals
one_cpu_more old mid new job room more at files others deals others_deals deal less dealt are each =
    let here = element_at job.setup.cpus at less in
    let read = each here.0 here.1 in
    let short = length-take-le at job.setup.cpus (omega (arith, less)) in
    record {
      all = are.all ++ read.0 ∷ [];
      by_cpu = are.by_cpu ++ read.1 ∷ [];
      files_are = read.2 ∙ ap (λ (fs : List ReadFile). fs ++ read.1) are.files_are
          ∙ sym (files_more are.by_cpu read.1);
      read_is = rw (one_more job.setup.cpus at here.0 here.1 less, dealt)
          (cpus_then old mid new job room more 0 (take at job.setup.cpus) are.all are.by_cpu deals here.0 read.0
          read.1 deal are.read_is
          (cpu_as mid new job room more at (0 + length (take at job.setup.cpus)) here.0.file read.0 read.1 deal
          (omega (arith, short)) read.3));
    }
