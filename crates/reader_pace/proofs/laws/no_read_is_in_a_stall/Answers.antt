use Rattle.reader_pace.proofs.Schedules.{timeline_awake}
use Rattle.reader_pace.proofs.laws.no_read_is_in_a_stall.Goals as goal

pub returns : goal.returns
returns c = timeline_awake
