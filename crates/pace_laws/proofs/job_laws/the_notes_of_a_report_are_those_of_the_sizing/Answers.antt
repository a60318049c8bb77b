use Rattle.pace_laws.proofs.JobAnswers.{block_notes, slot_notes}
use Rattle.pace_laws.proofs.job_laws.the_notes_of_a_report_are_those_of_the_sizing.Goals as goal

pub returns : goal.returns
returns c = record {
  blocks = block_notes;
  slots = slot_notes;
}
