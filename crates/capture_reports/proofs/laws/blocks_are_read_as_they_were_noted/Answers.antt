use Rattle.capture_reports.proofs.ReadReports.{read_all}
use Rattle.capture_reports.proofs.laws.blocks_are_read_as_they_were_noted.Goals as goal
use Rattle.ring_model.specs.Ring.{state_of}
use Rattle.tp_layout.specs.Requests.{size_of}

pub returns : goal.returns
returns c = λ job notes ring of.
    read_all c.a_text_is_read_as_it_was_written.ensures job.setup.shape 1 ring.retired
    (state_of (size_of job.setup.shape) notes).done
    job.runnable.ring.small of.texts
