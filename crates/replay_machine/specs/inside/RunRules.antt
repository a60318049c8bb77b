-- The rules by which the arrivals of a run are judged.
use Rattle.std.specs.Prelude.{◌≡◌, ℕ}
use Rattle.fanout_group.specs.Judgements.{AgreesAt}
use Rattle.fanout_group.specs.RulesOfJudging.{judge_rules_of as judge_rules_in}
use Rattle.fanout_group.specs.declared.judgements.ArrivalRules.{ArrivalRules}
use Rattle.replay_machine.specs.RunStates.{IsRun, RunValue}
use Rattle.run_reports.specs.RingSteps.{RingSteps}
use Rattle.run_reports.specs.Jobs.{judge_rules_of}
use Rattle.setup_text.specs.declared.jobs.Job.{Job}

-- the rules of a job for the arrivals of one CPU
pub record AreRulesAt (steps : RingSteps) (job : Job) (cpu : ℕ) (rules : ArrivalRules)
    : Type 0 where
  pub agrees : AgreesAt cpu (judge_rules_of job) (judge_rules_in rules)
  pub queue_is : rules.queue ≡ (judge_rules_of job).queue cpu
  pub room_is : rules.room ≡ steps.size.room

-- a run of a job, and that job's rules for one of its CPUs
pub record IsRunBy (steps : RingSteps) (job : Job) (cpu : ℕ) (rules : ArrivalRules)
    (run : RunValue) : Type 0 where
  pub rules_are : AreRulesAt steps job cpu rules
  pub run_is : IsRun steps job run
