use Rattle.reader_pace.proofs.Ends.{blocks_end, pauses_end, ticks_end}
use Rattle.reader_pace.proofs.laws.the_last_frame_ends_a_timeline.Goals as goal

pub returns-clause-ticks : goal.returns-clause-ticks
returns-clause-ticks c = ticks_end

pub returns-clause-pauses : goal.returns-clause-pauses
returns-clause-pauses c = pauses_end

pub returns-clause-blocks : goal.returns-clause-blocks
returns-clause-blocks c = blocks_end
