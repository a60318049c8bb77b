use Rattle.reader_pace.proofs.Schedules.{timeline_rises}
use Rattle.reader_pace.proofs.laws.a_timeline_never_goes_back.Goals as goal

pub returns : goal.returns
returns c = timeline_rises
