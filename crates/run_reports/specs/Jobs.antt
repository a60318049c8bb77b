-- The rules by which a job judges its arrivals, and the arrivals of its CPUs.
use Rattle.std.specs.Prelude.{ℕ, ◌+◌, List, [], ◌∷◌, map, slice_get, Option, None, Some}
use Rattle.capture_file.specs.Capture.{frames_of}
use Rattle.fanout_group.specs.Arrivals.{arrivals_at}
use Rattle.fanout_group.specs.Judgements.{JudgeRules, rules_by}
use Rattle.fanout_group.specs.Plans.{has_defrag}
use Rattle.fanout_group.specs.Rules.{Rules}
use Rattle.frame_view.specs.declared.frames.Frame.{Frame}
use Rattle.setup_text.specs.declared.cpu_setups.CpuSetup.{CpuSetup}
use Rattle.setup_text.specs.declared.jobs.Job.{Job}

-- the receive queue of a CPU, 0 for one that doesn't exist
abbrev pub queue_in : Option CpuSetup → ℕ
queue_in None = 0
queue_in (Some cpu) = cpu.queue

-- the rules by which a job judges its arrivals
abbrev pub judge_rules_of : Job → JudgeRules
judge_rules_of job = record {
  key = job.setup.key;
  filter = job.program;
  own = job.setup.mac;
  queue = λ cpu. queue_in (slice_get job.setup.cpus cpu);
}

-- the rules of a job's group
abbrev pub rules_of : Job → Rules
rules_of job = rules_by job.setup.plan (judge_rules_of job)

-- the frames of sources that gave these bytes, for CPUs with the numbers from this one up
abbrev pub captures_from : ℕ → List (List ℕ) → List (List Frame)
captures_from cpu [] = []
captures_from cpu (bytes ∷ all) = frames_of cpu bytes ∷ captures_from (cpu + 1) all

-- what arrives with each frame of each CPU
abbrev pub arriving_of : Job → List (List ℕ) → List (List (Option Frame))
arriving_of job all = map (arrivals_at (has_defrag job.setup.plan.flags)) (captures_from 0 all)
