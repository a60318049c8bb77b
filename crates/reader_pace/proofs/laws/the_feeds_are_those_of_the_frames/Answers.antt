use Rattle.reader_pace.proofs.Schedules.{timeline_feeds}
use Rattle.reader_pace.proofs.laws.the_feeds_are_those_of_the_frames.Goals as goal

pub returns : goal.returns
returns c = timeline_feeds
