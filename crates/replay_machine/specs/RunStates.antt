-- A running replay whose sources are read a piece at a time, and the replay of all their frames
-- that it represents.
use Rattle.std.specs.Prelude.{◌≡◌, ℕ, ◌+◌, ◌*◌, ◌^◌, ◌<◌, ◌≤◌, Bool, List, [], ◌∷◌, length}
use Rattle.std.specs.Prelude.{slice_index_or, slice_set, map, ⊤, Option, None, All, MatchBool}
use Rattle.std.specs.List.{AllByRecursion}
use Rattle.fanout_group.specs.Paths.{first_path}
use Rattle.fanout_group.specs.Plans.{Shape}
use Rattle.fanout_group.specs.declared.modes.Mode.TheVariants.{Hash}
use Rattle.frame_view.specs.declared.frames.Frame.{Frame}
use Rattle.receive_ring.specs.Replay.{Cpu, Replay, feed}
use Rattle.run_reports.specs.RingSteps.{RingSteps}
use Rattle.ring_model.specs.Rings.{Ring}
use Rattle.setup_text.specs.declared.jobs.Job.{Job}
use Rattle.replay_machine.specs.Deliveries.{ChangedByTries}
use Rattle.cpu_feed.specs.Fed.{FedOne, IsAtItsEnd}
use Rattle.cpu_feed.specs.CpuFeeds.{Feeding, IsAllOfCpu, waiting_of}
use Rattle.run_reports.specs.Jobs.{rules_of}
use Rattle.tap_outside.specs.Seen.{SourceSeen}

pub record RunValue : Type 0 where
  pub cpus : List Feeding
  pub members : List Ring
  pub ticket : ℕ

-- a CPU that doesn't exist
abbrev pub no_feeding : Feeding
no_feeding = record {
  number = 0;
  first = None;
  bytes = [];
  ended = None;
  fed = 0;
  path = first_path (record { members = 0; mode = Hash; flags = 0 });
}

abbrev pub cpu_in : RunValue → ℕ → Feeding
cpu_in run cpu = slice_index_or run.cpus cpu no_feeding

-- the CPU of a replay of all these frames
abbrev pub cpu_of : List Frame → Feeding → Cpu
cpu_of all cpu =
    record { waiting = waiting_of all cpu; present = cpu.path.present; log = cpu.path.log }

-- the CPUs of a replay of all frames of each source
abbrev pub cpus_of : List (List Frame) → List Feeding → List Cpu
cpus_of (all ∷ rest) (cpu ∷ cpus) = cpu_of all cpu ∷ cpus_of rest cpus
cpus_of rest cpus = []

-- all frames of the source of each CPU
abbrev pub AreAllOf : List (List Frame) → List Feeding → Type 0
AreAllOf [] [] = ⊤
AreAllOf (all ∷ rest) (cpu ∷ cpus) = IsAllOfCpu all cpu × AreAllOf rest cpus
AreAllOf rest cpus = ⊥

-- the replay of all these frames
abbrev pub whole : List (List Frame) → RunValue → Replay
whole all run = record { cpus = cpus_of all run.cpus; members = run.members; ticket = run.ticket }

-- the run makes this step of a replay, whatever its sources still give
abbrev pub Does : (Replay → Replay) → RunValue → RunValue → Type 0
Does step old new =
    (all : List (List Frame)) → AreAllOf all new.cpus → AreAllOf all old.cpus
    × (whole all new ≡ step (whole all old))

-- the CPUs are numbered from this number up, and their groups have this shape
abbrev pub AreCpus : Shape → ℕ → List Feeding → Type 0
AreCpus plan number [] = ⊤
AreCpus plan number (cpu ∷ cpus) =
    (cpu.number ≡ number) × (cpu.path.shape ≡ plan) × AreCpus plan (number + 1) cpus

-- the sources as they were handed in
abbrev pub firsts_of : RunValue → List (Option SourceSeen)
firsts_of run = map (λ cpu. cpu.first) run.cpus

-- the run is one of the job, over rings of this kind
pub record IsRun (steps : RingSteps) (job : Job) (run : RunValue) : Type 0 where
  pub count : length run.members ≡ job.setup.plan.members
  pub sizes : All (λ ring. ring.size ≡ steps.size) run.members
  pub cpus : AreCpus job.setup.plan 0 run.cpus

-- how many frames these CPUs were fed
abbrev pub fed_of : List Feeding → ℕ
fed_of [] = 0
fed_of (cpu ∷ cpus) = cpu.fed + fed_of cpus

-- each ring has at most n notes
abbrev pub HaveAtMost : ℕ → List Ring → Type 0
HaveAtMost most members = All (λ ring. length ring.notes ≤ most) members

-- `lines` lines were done: each frame that was fed drew at most one ticket and made at most 9 notes
-- at a ring, each line at most one more note; a capture has at most 2,097,150 frames
pub record IsCounted (lines : ℕ) (run : RunValue) : Type 0 where
  pub few : length run.cpus ≤ 8
  pub fed : AllByRecursion (λ cpu. cpu.fed ≤ 2097150) run.cpus
  pub tickets : run.ticket ≤ fed_of run.cpus
  pub notes : HaveAtMost (9 * fed_of run.cpus + lines) run.members

-- fewer lines were done than a schedule may have
abbrev pub HasCount : RunValue → Type 0
HasCount run = (lines : ℕ) × (lines < 2 ^ 32) × IsCounted lines run

-- one CPU was fed: it goes on, or has ended
pub record FeedsOn (cpu : ℕ) (more : Bool) (old new : RunValue) : Type 0 where
  pub one : Feeding
  pub cpus_are : new.cpus ≡ slice_set old.cpus cpu one
  pub goes : MatchBool more (FedOne (cpu_in old cpu) one) (IsAtItsEnd one)

-- a CPU is fed its next frame, if it has one
pub record Feeds (steps : RingSteps) (job : Job) (cpu : ℕ) (more : Bool) (old new : RunValue)
    : Type 0 where
  pub does : Does (λ replay. feed (rules_of job) steps cpu replay) old new
  pub run : IsRun steps job new
  pub goes : FeedsOn cpu more old new
  pub firsts : firsts_of new ≡ firsts_of old
  pub changed : ChangedByTries steps old.members new.members
  pub counted : (lines : ℕ) → IsCounted lines old → IsCounted lines new
