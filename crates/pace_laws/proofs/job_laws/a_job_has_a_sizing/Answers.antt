use Rattle.pace_laws.proofs.JobAnswers.{job_sizing, job_slot_sizing}
use Rattle.pace_laws.proofs.job_laws.a_job_has_a_sizing.Goals as goal

pub returns : goal.returns
returns c = record {
  blocks = job_sizing;
  slots = job_slot_sizing;
}
