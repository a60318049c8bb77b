-- What was read of the captures of the CPUs, each of which may go on in further files.
use Rattle.std.specs.Prelude.{◌≡◌, ℕ, ◌+◌, ◌==◌, List, [], ◌∷◌, ◌++◌, length, if◌then◌else◌}
use Rattle.capture_file.specs.Capture.{frames_of}
use Rattle.frame_deals.specs.Dealings.{Dealing, after_frames, first_dealing}
use Rattle.reader_pace.specs.declared.paces.MoreFile.{MoreFile}
use Rattle.run_reports.specs.Jobs.{rules_of}
use Rattle.setup_text.specs.declared.cpu_setups.CpuSetup.{CpuSetup}
use Rattle.setup_text.specs.declared.jobs.Job.{Job}
use Rattle.size_printing.specs.declared.size_reports.ReadFile.{ReadFile}
use Rattle.tap_outside.specs.Seen.{StoreSeen}
use Rattle.tap_running.specs.Captures.{fault_at}
use Rattle.tap_running.specs.Files.{IsFileRead}

-- the further files of a CPU, in the order of their lines
abbrev pub more_of : ℕ → List MoreFile → List (List ℕ)
more_of cpu [] = []
more_of cpu (more ∷ files) =
    if more.cpu == cpu then more.file ∷ more_of cpu files else more_of cpu files

-- a file of a CPU was read after those before it: these are the bytes that it gave, so it ended, so
-- many frames it had and with so many of them a frame arrived, and its frames were taken, for rings
-- with this room
pub record IsFileTaken (old new : StoreSeen) (job : Job) (room cpu : ℕ) (name bytes : List ℕ)
    (file : ReadFile) (before after : Dealing) : Type 0 where
  pub file_is : IsFileRead old new name bytes file.end
  pub cpu_is : file.cpu ≡ cpu
  pub frames : file.frames ≡ length (frames_of cpu bytes)
  pub arrivals : after.arrivals ≡ before.arrivals + file.arrivals
  pub taken : after ≡ after_frames (rules_of job) room (frames_of cpu bytes) before

-- the files of a CPU with these names were read, one after another
abbrev pub AreFilesTaken : StoreSeen → StoreSeen → Job → ℕ → ℕ → List (List ℕ)
    → List (List ℕ) → List ReadFile → Dealing → Dealing → Type 0
AreFilesTaken old new job room cpu [] [] [] before after = (new ≡ old) × (after ≡ before)
AreFilesTaken old new job room cpu (name ∷ names) (bytes ∷ all) (file ∷ files) before after =
    (between : StoreSeen) × (deal : Dealing)
    × IsFileTaken old between job room cpu name bytes file before deal
    × AreFilesTaken between new job room cpu names all files deal after
AreFilesTaken old new job room cpu names all files before after = ⊥

-- the capture of a CPU was read, and then its further files
abbrev pub IsCpuRead : StoreSeen → StoreSeen → Job → ℕ → List MoreFile → ℕ → List ℕ
    → List (List ℕ) → List ReadFile → Dealing → Type 0
IsCpuRead old new job room more cpu name all files deal =
    AreFilesTaken old new job room cpu (name ∷ more_of cpu more) all files
    (first_dealing cpu job.setup.plan) deal

-- those of the CPUs with the numbers from this one up were read, one CPU after another
abbrev pub AreCpusRead : StoreSeen → StoreSeen → Job → ℕ → List MoreFile → ℕ → List CpuSetup
    → List (List (List ℕ)) → List (List ReadFile) → List Dealing → Type 0
AreCpusRead old new job room more cpu [] [] [] [] = new ≡ old
AreCpusRead old new job room more cpu (setup ∷ setups) (bytes ∷ all) (files ∷ rest)
    (deal ∷ deals) =
    (between : StoreSeen) × IsCpuRead old between job room more cpu setup.file bytes files deal
    × AreCpusRead between new job room more (cpu + 1) setups all rest deals
AreCpusRead old new job room more cpu setups all rest deals = ⊥

-- the files of all CPUs, of one CPU after another
abbrev pub files_in : List (List ReadFile) → List ReadFile
files_in [] = []
files_in (files ∷ rest) = files ++ files_in rest

-- all files of all CPUs were read: for each CPU a list of what each of its files gave
pub record AreAllRead (old new : StoreSeen) (job : Job) (room : ℕ) (more : List MoreFile)
    (all : List (List (List ℕ))) (files : List ReadFile) (deals : List Dealing) : Type 0 where
  pub by_cpu : List (List ReadFile)
  pub files_are : files ≡ files_in by_cpu
  pub read_is : AreCpusRead old new job room more 0 job.setup.cpus all by_cpu deals

-- how many files ended with a fault
abbrev pub file_faults : List ReadFile → ℕ
file_faults [] = 0
file_faults (file ∷ files) = fault_at file.end + file_faults files
