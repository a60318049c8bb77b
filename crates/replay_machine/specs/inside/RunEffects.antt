-- A run from its first line to its close.
use Rattle.std.specs.Prelude.{◌≡◌, ℕ, ◌+◌, List, [], ◌∷◌, length, map, replicate, slice_index_or}
use Rattle.std.specs.Prelude.{slice_set, Option, None, IsSome}
use Rattle.std.specs.List.{AllByRecursion}
use Rattle.fanout_group.specs.Paths.{first_path}
use Rattle.fanout_group.specs.Plans.{Shape}
use Rattle.receive_ring.specs.Replay.{Replay, cpu_at, done_line, feed_from, feed_times, no_ring}
use Rattle.receive_ring.specs.Replay.{noted_at}
use Rattle.setup_text.specs.declared.lines.Line.{Line}
use Rattle.setup_text.specs.declared.lines.Line.TheVariants as line
use Rattle.run_reports.specs.RingSteps.{RingSteps, read_by, ticked}
use Rattle.ring_model.specs.Rings.{Ring, fresh}
use Rattle.ring_model.specs.declared.notes.Note.TheVariants.{Counted}
use Rattle.setup_text.specs.declared.jobs.Job.{Job}
use Rattle.run_reports.specs.declared.reports.MemberReport.{MemberReport}
use Rattle.run_reports.specs.declared.reports.RunReport.{RunReport}
use Rattle.receive_ring.specs.Replay.{finished_ring}
use Rattle.replay_machine.specs.Deliveries.{ChangedByTries}
use Rattle.cpu_feed.specs.Fed.{IsAtItsEnd}
use Rattle.cpu_feed.specs.ClosedCpus.{AllClose}
use Rattle.cpu_feed.specs.CpuFeeds.{Feeding}
use Rattle.replay_machine.specs.RunStates.{Does, IsCounted, IsRun, RunValue, firsts_of}
use Rattle.run_reports.specs.Jobs.{rules_of}
use Rattle.tap_outside.specs.Seen.{SourceSeen}

-- a CPU of which nothing was read
abbrev pub first_feeding : Shape → ℕ → Option SourceSeen → Feeding
first_feeding plan number first =
    record {
      number = number;
      first = first;
      bytes = [];
      ended = None;
      fed = 0;
      path = first_path plan;
    }

-- those of the sources, numbered from this number
abbrev pub starting_from : Shape → ℕ → List (Option SourceSeen) → List Feeding
starting_from plan number [] = []
starting_from plan number (first ∷ firsts) =
    first_feeding plan number first ∷ starting_from plan (number + 1) firsts

-- before the first line
pub record Starts (steps : RingSteps) (job : Job) (firsts : List (Option SourceSeen))
    (run : RunValue) : Type 0 where
  pub cpus : run.cpus ≡ starting_from job.setup.plan 0 firsts
  pub members : run.members ≡ replicate job.setup.plan.members (fresh steps.size)
  pub ticket : run.ticket ≡ 0

-- what a line does to the rings
abbrev pub MembersAfter : RingSteps → Line → List Ring → List Ring → Type 0
MembersAfter steps (line.Feed cpu) old new = ChangedByTries steps old new
MembersAfter steps (line.Read member) old new =
    new ≡ slice_set old member (read_by steps (slice_index_or old member no_ring))
MembersAfter steps (line.Tick ms) old new = new ≡ map (ticked steps ms) old
MembersAfter steps (line.Stats member) old new = new ≡ noted_at member Counted old

-- a line is done
pub record LineDone (steps : RingSteps) (job : Job) (line : Line) (old new : RunValue)
    : Type 0 where
  pub does : Does (λ replay. done_line (rules_of job) steps line replay) old new
  pub run : IsRun steps job new
  pub firsts : firsts_of new ≡ firsts_of old
  pub members : MembersAfter steps line old.members new.members
  pub counted : (lines : ℕ) → IsCounted lines old → IsCounted (lines + 1) new

-- all frames of a CPU that still wait
abbrev pub fed_whole : RingSteps → Job → ℕ → Replay → Replay
fed_whole steps job cpu replay =
    feed_times (rules_of job) steps cpu
    (length (cpu_at replay cpu).waiting) replay

-- a CPU is fed to its end
pub record FedWhole (steps : RingSteps) (job : Job) (cpu : ℕ) (old new : RunValue) : Type 0 where
  pub does : Does (fed_whole steps job cpu) old new
  pub run : IsRun steps job new
  pub firsts : firsts_of new ≡ firsts_of old
  pub one : Feeding
  pub cpus_are : new.cpus ≡ slice_set old.cpus cpu one
  pub ended : IsAtItsEnd one
  pub counted : (lines : ℕ) → IsCounted lines old → IsCounted lines new

-- each CPU from 0 up is fed to its end
pub record FedRest (steps : RingSteps) (job : Job) (old new : RunValue) : Type 0 where
  pub does : Does (λ replay. feed_from (rules_of job) steps 0
      (length old.cpus) replay) old new
  pub run : IsRun steps job new
  pub firsts : firsts_of new ≡ firsts_of old
  pub ended : AllByRecursion (λ cpu. IsSome cpu.ended) new.cpus

-- the run is closed: what its CPUs and its members report
pub record Finishes (reported : Ring → MemberReport) (run : RunValue)
    (nows : List (Option SourceSeen)) (report : RunReport) : Type 0 where
  pub cpus : AllClose run.cpus nows report.cpus
  pub members : report.members ≡ map reported (map finished_ring run.members)
