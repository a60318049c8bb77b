use Rattle.reader_pace.proofs.Schedules.{reader_schedule}
use Rattle.reader_pace.proofs.laws.a_readers_schedule_is_one.Goals as goal

pub returns : goal.returns
returns c = reader_schedule
